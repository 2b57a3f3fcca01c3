use Rattle.std.proofs.Common.{◌≡◌}
use Rattle.xs_cache_timing.specs.Blocks.{HasWon}
use Rattle.xs_cache_timing.proofs.seat.claim_all.Given as goal

abbrev pub invariant-loop-k : goal.invariant-loop-k
invariant-loop-k g l = record {
  plan : g.D.Desk.plan l.desk ≡ l.p;
  won : HasWon l.block l.k (g.D.Desk.view l.desk);
}
