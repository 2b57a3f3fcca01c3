use Rattle.std.proofs.Common.{◌≡◌, ◌*◌, map}
use Rattle.std.specs.List.{range_with_len}
use Rattle.xs_make.specs.Files.{cel_name}
use Rattle.xs_make.proofs.scene.level.Given as goal

abbrev pub invariant-loop-j : goal.invariant-loop-j
invariant-loop-j l = l.names.items ≡ map cel_name (range_with_len (4 * l.l) l.j)
