use Rattle.std.proofs.Common.{subst}
use Rattle.xs_plan.specs.Record.{PlanRecord}
use Rattle.xs_word_tests.specs.Hands.{AreOpen}
use Rattle.xs_word_tests.proofs.HandLemmas.{free_stays, one_won, open_won}
use Rattle.xs_word_tests.proofs.seat.wins.Goals as goal

pub returns-in-Won-clause-one : goal.returns-in-Won-clause-one
returns-in-Won-clause-one g c = λ won. one_won _ _ c.args.k c.requires.free c.in-Won.ensures.told

pub returns-in-Won-clause-open : goal.returns-in-Won-clause-open
returns-in-Won-clause-open g c = λ won.
    subst (λ (p : PlanRecord). AreOpen p c.args.k 0 (g.D.Desk.view c.claim.new.self)) c.requires.plan
    (open_won _ _ _ c.args.k c.look_over.ensures c.in-Won.ensures.told)

pub returns-in-Busy-clause-free : goal.returns-in-Busy-clause-free
returns-in-Busy-clause-free g c = λ lost. free_stays _ _ c.in-Busy.ensures.told.0 c.requires.free

pub returns-in-Ready-clause-free : goal.returns-in-Ready-clause-free
returns-in-Ready-clause-free g c = λ lost. free_stays _ _ c.in-Ready.ensures.told.0 c.requires.free

pub returns-in-Lost-clause-free : goal.returns-in-Lost-clause-free
returns-in-Lost-clause-free g c = λ lost. free_stays _ _ c.in-Lost.ensures.told.0 c.requires.free
