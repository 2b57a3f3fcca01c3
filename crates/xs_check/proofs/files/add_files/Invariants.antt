use Rattle.std.proofs.Common.{◌≡◌, ◌++◌, map, take}
use Rattle.xs_check.proofs.files.add_files.Given as goal

abbrev pub invariant-loop-drawing : goal.invariant-loop-drawing
invariant-loop-drawing l = map (λ f. f.now) l.files.items ≡ map (λ f. f.now) l.initial.files.items ++ take l.drawing-index l.drawings
