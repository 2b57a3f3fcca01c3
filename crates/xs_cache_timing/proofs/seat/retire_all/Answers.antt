use Rattle.std.proofs.Common.{arith}
use Rattle.xs_cache_timing.proofs.BlockLemmas.{served_later}
use Rattle.xs_cache_timing.proofs.seat.retire_all.Goals as goal

pub loop-e-init : goal.loop-e-init
loop-e-init g c = record {
  plan = c.requires.plan;
  served = served_later c.args.block c.args.block.first_read (g.D.Desk.view c.args.desk.now) c.requires.unserved;
  few = omega arith;
}
