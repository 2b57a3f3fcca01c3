use Rattle.std.proofs.Common.{◌≡◌}
use Rattle.xs_cache_timing.specs.Blocks.{HasServed}
use Rattle.xs_cache_timing.proofs.seat.read_all.Given as goal

abbrev pub invariant-loop-e : goal.invariant-loop-e
invariant-loop-e g l = record {
  plan : g.D.Desk.plan l.desk ≡ l.p;
  unserved : HasServed l.block 0 (g.D.Desk.view l.desk);
}
