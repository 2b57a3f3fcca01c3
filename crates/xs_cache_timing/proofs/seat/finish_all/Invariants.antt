use Rattle.std.proofs.Common.{◌≡◌}
use Rattle.xs_cache_timing.specs.Blocks.{HasMade}
use Rattle.xs_cache_timing.proofs.seat.finish_all.Given as goal

abbrev pub invariant-loop-k : goal.invariant-loop-k
invariant-loop-k g l = record {
  plan : g.D.Desk.plan l.desk ≡ l.p;
  made : HasMade l.block l.k (g.D.Desk.view l.desk);
}
