use Rattle.std.proofs.Common.{◌≡◌}
use Rattle.xs_life.specs.Alive.{Alive}
use Rattle.xs_life.proofs.life.make_first.Given as goal

abbrev pub invariant-loop-k : goal.invariant-loop-k
invariant-loop-k g l = (g.D.Desk.plan l.desk ≡ g.D.Desk.plan l.initial.desk) × Alive (g.D.Desk.view l.desk) l.k 0
