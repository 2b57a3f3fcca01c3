use Rattle.std.proofs.Common.{◌≡◌, ◌*◌, vec_len}
use Rattle.xs_timing.proofs.tiles.words.Given as goal

abbrev pub invariant-loop-done : goal.invariant-loop-done
invariant-loop-done l = vec_len l.row ≡ 4 * l._done
