use Rattle.std.proofs.Common.{◌≡◌, drop}
use Rattle.xs_check.specs.Passes.{file_path}
use Rattle.xs_check.proofs.files.file_path.Given as goal

abbrev pub invariant-loop-i : goal.invariant-loop-i
invariant-loop-i l = file_path l.i (drop l.i l.levels) l.left ≡ file_path 0 l.levels l.d
