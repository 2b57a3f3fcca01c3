use Rattle.std.proofs.Common.{◌≡◌, [], All, length}
use Rattle.xs_top.proofs.benches.lane_benches.Given as goal

abbrev pub invariant-loop-i : goal.invariant-loop-i
invariant-loop-i l = record {
  count : length l.benches.items ≡ l.i;
  unused : All (λ bench. bench.computed.items ≡ []) l.benches.items;
}
