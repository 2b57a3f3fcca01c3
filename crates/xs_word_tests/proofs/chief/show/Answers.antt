use Rattle.std.proofs.Common.{◌≡◌, ◌∙◌, subst}
use Rattle.xs_plan.specs.Record.{PlanRecord}
use Rattle.xs_core.specs.Calls.{RetireTells}
use Rattle.xs_word_tests.proofs.HandLemmas.{roots_stay, roots_served}
use Rattle.xs_word_tests.proofs.chief.show.Goals as goal

pub returns-in-Ok-Got-clause-open : goal.returns-in-Ok-Got-clause-open
returns-in-Ok-Got-clause-open g c =
    let p = c.args.p.now in
    let first = c.may_show.ensures.stays in
    let second = c.seats_may_go_on.ensures.reading _ _ _ _ c.args.e c.in-Ok-Got.field-0 c.in-Ok-Got.ensures.told in
    let unserved = roots_stay p c.args.e _ _ second (roots_stay p c.args.e _ _ first c.requires.open) in
    let here : g.D.Desk.plan c.read.new.self ≡ p = c.in-Ok-Got.ensures.plan ∙ c.may_show.ensures.plan in
    let told = subst (λ (q : PlanRecord). RetireTells q (g.D.Desk.view c.read.new.self) c.args.e c.retire-left.result
    (g.D.Desk.view c.retire-left.new.self)) here c.retire-left.ensures.told in
    roots_served p _ _ c.args.e _ unserved told
