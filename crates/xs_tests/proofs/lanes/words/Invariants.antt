use Rattle.std.proofs.Common.{◌≡◌, ◌*◌, vec_len}
use Rattle.xs_tests.proofs.lanes.words.Given as goal

abbrev pub invariant-loop-k : goal.invariant-loop-k
invariant-loop-k g l = vec_len l.row ≡ 4 * l.k
