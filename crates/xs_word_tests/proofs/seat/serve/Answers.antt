use Rattle.std.proofs.Common.{◌≡◌, ◌∙◌, subst, sym}
use Rattle.xs_plan.specs.Record.{PlanRecord}
use Rattle.xs_core.specs.Views.{MayRead}
use Rattle.xs_core.specs.Calls.{RetireTells}
use Rattle.xs_word_tests.proofs.HandLemmas.{one_stays, one_served, open_stays, open_served}
use Rattle.xs_word_tests.proofs.seat.serve.Goals as goal

pub retire-left-requires : goal.retire-left-requires
retire-left-requires g c =
    let stays = c.seats_may_go_on.ensures.reading _ _ _ _ c.args.e c.in-Ok-Got.field-0 c.in-Ok-Got.ensures.told in
    let may = subst (λ (p : PlanRecord). MayRead p (g.D.Desk.view c.may_serve.new.desk) c.args.e) (sym c.may_serve.ensures.plan)
    (c.may_serve.ensures.may c.if-not-may_serve.false) in
    subst (λ (p : PlanRecord). MayRead p (g.D.Desk.view c.read.new.self) c.args.e) (sym c.in-Ok-Got.ensures.plan)
    (c.seats_may_go_on.ensures.reads _ _ _ c.args.e stays may)

pub returns-then-not-may_serve-clause-one : goal.returns-then-not-may_serve-clause-one
returns-then-not-may_serve-clause-one g c = one_stays c.args.k _ _ c.may_serve.ensures.stays c.requires.one

pub returns-in-Ok-Got-clause-one : goal.returns-in-Ok-Got-clause-one
returns-in-Ok-Got-clause-one g c =
    let first = c.may_serve.ensures.stays in
    let second = c.seats_may_go_on.ensures.reading _ _ _ _ c.args.e c.in-Ok-Got.field-0 c.in-Ok-Got.ensures.told in
    one_served (g.D.Desk.plan c.read.new.self) _ _ c.args.k c.args.e _ (λ zero. c.requires.other (sym first.number ∙ sym second.number ∙ zero))
    (one_stays c.args.k _ _ second (one_stays c.args.k _ _ first c.requires.one)) c.retire-left.ensures.told

pub returns-in-Ok-Got-clause-served : goal.returns-in-Ok-Got-clause-served
returns-in-Ok-Got-clause-served g c = λ some.
    let p = c.args.p.now in
    let first = c.may_serve.ensures.stays in
    let second = c.seats_may_go_on.ensures.reading _ _ _ _ c.args.e c.in-Ok-Got.field-0 c.in-Ok-Got.ensures.told in
    let unserved = open_stays p c.args.k c.args.e _ _ second (open_stays p c.args.k c.args.e _ _ first c.requires.open) in
    let here : g.D.Desk.plan c.read.new.self ≡ p = c.in-Ok-Got.ensures.plan ∙ c.may_serve.ensures.plan in
    let told = subst (λ (q : PlanRecord). RetireTells q (g.D.Desk.view c.read.new.self) c.args.e c.retire-left.result
    (g.D.Desk.view c.retire-left.new.self)) here c.retire-left.ensures.told in
    open_served p _ _ c.args.k c.args.e _ unserved told

pub returns-in-Ok-Turn-clause-one : goal.returns-in-Ok-Turn-clause-one
returns-in-Ok-Turn-clause-one g c =
    one_stays c.args.k _ _
    (c.seats_may_go_on.ensures.reading _ _ _ _ c.args.e c.in-Ok-Turn.field-0 c.in-Ok-Turn.ensures.told) (one_stays c.args.k _ _ c.may_serve.ensures.stays c.requires.one)

pub returns-in-Err-clause-one : goal.returns-in-Err-clause-one
returns-in-Err-clause-one g c =
    one_stays c.args.k _ _ c.in-Err.ensures.told (one_stays c.args.k _ _ c.may_serve.ensures.stays c.requires.one)
