use Rattle.std.proofs.Common.{◌≡◌, map, take}
use Rattle.xs_check.specs.Good.{files_of}
use Rattle.xs_check.proofs.files.files_of.Given as goal

abbrev pub invariant-loop-level : goal.invariant-loop-level
invariant-loop-level l = map (λ f. f.now) l.files.items ≡ files_of (take l.level-index l.levels)
