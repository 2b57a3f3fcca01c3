use Rattle.xs_levels_tests.specs.Rows.{HasRows}
use Rattle.xs_levels_tests.proofs.plans.plan_of.Given as goal

abbrev pub invariant-loop-row : goal.invariant-loop-row
invariant-loop-row l = HasRows l.tile l.rows l.row l.b
