-- No drawing is needed.
use Rattle.xs_tests_top.proofs.SmallPlans.{needed-below_two}
use Rattle.xs_tests_top.proofs.plan.bare.Goals as goal

pub finish-requires-clause-drawings : goal.finish-requires-clause-drawings
finish-requires-clause-drawings c =
    rw (c.in_ok-show-2.ensures, c.in_ok-show.ensures, c.in_ok-b.ensures)
    (needed-below_two 0 _ _ tt tt)
