-- Drawing 0 alone is needed.
use Rattle.std.proofs.Common.{lit<}
use Rattle.xs_tests_top.proofs.SmallPlans.{needed-below_two}
use Rattle.xs_tests_top.proofs.plan.tinted.Goals as goal

pub finish-requires-clause-drawings : goal.finish-requires-clause-drawings
finish-requires-clause-drawings c =
    rw (c.in_ok-show-2.ensures, c.in_ok-show.ensures, c.in_ok-tint.ensures.added, c.in_ok-b.ensures)
    (needed-below_two 1 _ _ (lit< tt) (lit< tt))
