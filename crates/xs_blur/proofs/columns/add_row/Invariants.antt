use Rattle.std.proofs.Common.{◌≡◌, ℕ, ◌+◌, ◌<◌, ◌≤◌, get_or}
use Rattle.xs_blur.proofs.columns.add_row.Given as goal

abbrev pub invariant-loop-c : goal.invariant-loop-c
invariant-loop-c l = record {
  done : (k : ℕ) → k < l.c → get_or l.sums k 0 ≡ get_or l.initial.sums k 0 + get_or l.row k 0;
  left : (k : ℕ) → l.c ≤ k → get_or l.sums k 0 ≡ get_or l.initial.sums k 0;
}
