use Rattle.std.proofs.Common.{◌≡◌}
use Rattle.xs_life.specs.Alive.{Alive}
use Rattle.xs_life.proofs.life.serve_first.Given as goal

abbrev pub invariant-loop-e : goal.invariant-loop-e
invariant-loop-e g l = (g.D.Desk.plan l.desk ≡ g.D.Desk.plan l.initial.desk) × Alive (g.D.Desk.view l.desk) l.aliases l.e
