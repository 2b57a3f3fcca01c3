use Rattle.std.specs.List.{AllWithin}
use Rattle.xs_scene.proofs.in_range.each_in_range.Given as goal

abbrev pub invariant-loop-part : goal.invariant-loop-part
invariant-loop-part g l = AllWithin g.T.Ranged.is_in_range l.part-items 0 l.part-index
