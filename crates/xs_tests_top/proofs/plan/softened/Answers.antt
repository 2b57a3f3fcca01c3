-- The second alias reads the first one. Drawing 0 alone is needed.
use Rattle.std.proofs.Common.{lit<, refl, arith}
use Rattle.xs_tests_top.proofs.SmallPlans.{needed-below_two, reaches-both}
use Rattle.xs_tests_top.proofs.plan.softened.Goals as goal

pub root-requires-clause-reaches : goal.root-requires-clause-reaches
root-requires-clause-reaches c =
    let law = c.aliases_reach_what_their_inputs_reach.ensures in
    rw (c.in_ok-second.ensures.number, c.in_ok-second.ensures.added, c.in_ok-first.ensures.number, c.in_ok-first.ensures.added, c.in_ok-b.ensures)
    (reaches-both law.itself law.input _ _ (0, omega arith, refl))

pub finish-requires-clause-drawings : goal.finish-requires-clause-drawings
finish-requires-clause-drawings c =
    rw (c.in_ok-root.ensures, c.in_ok-second.ensures.added, c.in_ok-first.ensures.added, c.in_ok-b.ensures)
    (needed-below_two 1 _ _ (lit< tt) tt)
