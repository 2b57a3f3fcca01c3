use Rattle.std.proofs.Common.{ℕ, Some, None, List, length, slice_index, refl, ap, sym, subst, ◌∙◌, arith}
use Rattle.xs_plan.specs.Record.{PlanRecord}
use Rattle.xs_worker.specs.Piles.{last_or}
use Rattle.xs_worker.specs.Claims.{Fits, AreDrawn}
use Rattle.xs_worker.specs.Advances.{Standing, standing, StandsAt, lost_after, HasFinished, IsBlocked, HasLost, FellShort}
use Rattle.xs_worker.proofs.AdvanceLemmas.{lost_again, not_empty, stands_on, stands_over, finished, blocked, lost, short, able_same, able_over}
use Rattle.xs_worker.proofs.worker.Worker.advance.Goals as goal

pub returns-in-Some-clause-stands : goal.returns-in-Some-clause-stands
returns-in-Some-clause-stands g c = c.requires.stands

pub returns-in-Some-clause-told : goal.returns-in-Some-clause-told
returns-in-Some-clause-told g c =
    let gone = sym (ap (λ (s : Standing). s.gone) c.self.view_is) ∙ c.in-Some.is in
    lost_again c.args.p.now c.args.self.now (g.D.Desk.view c.args.desk.now) (g.B.Bench.made c.args.bench.now) c.in-Some.k c.requires.stands gone

pub returns-in-Some-clause-nothing : goal.returns-in-Some-clause-nothing
returns-in-Some-clause-nothing g c = λ none.
    let gone = sym (ap (λ (s : Standing). s.gone) c.self.view_is) ∙ c.in-Some.is in
    absurd (not_empty c.args.p.now c.args.self.now (g.D.Desk.view c.args.desk.now) c.in-Some.k c.requires.stands gone none)

pub run-requires-clause-able : goal.run-requires-clause-able
run-requires-clause-able g c =
    let stands = subst (λ (s : Standing). StandsAt c.args.p.now s (g.D.Desk.view c.args.desk.now)) (sym c.self.view_is) c.requires.stands in
    stands.able

pub run-requires-clause-drawn : goal.run-requires-clause-drawn
run-requires-clause-drawn g c =
    subst (λ (s : Standing). AreDrawn c.args.p.now s.targets s.stack (g.D.Desk.view c.args.desk.now) c.args.d.now) (sym c.self.view_is) c.requires.drawn

pub returns-in-Blocked-clause-stands : goal.returns-in-Blocked-clause-stands
returns-in-Blocked-clause-stands g c =
    stands_on c.args.p.now (standing c.run.new.self.targets.items c.run.new.self.next c.run.new.self.stack.items c.self.inside.gone) (g.D.Desk.view c.run.new.desk)
    (able_same c.args.p.now c.self.inside.work.targets.items c.run.new.self.targets.items c.run.new.self.next c.run.new.self.stack.items (g.D.Desk.view c.run.new.desk) c.run.ensures.same c.run.ensures.able)
    c.in_default.is

pub returns-in-Blocked-clause-told : goal.returns-in-Blocked-clause-told
returns-in-Blocked-clause-told g c =
    subst (λ (s : Standing). IsBlocked c.args.p.now s (g.D.Desk.view c.args.desk.now) (g.B.Bench.made c.args.bench.now) c.in-Blocked.k
    (standing c.run.new.self.targets.items c.run.new.self.next c.run.new.self.stack.items c.self.inside.gone) (g.D.Desk.view c.run.new.desk) (g.B.Bench.made c.run.new.bench)) c.self.view_is
    (blocked c.args.p.now (standing c.self.inside.work.targets.items c.self.inside.work.next c.self.inside.work.stack.items c.self.inside.gone)
    (standing c.run.new.self.targets.items c.run.new.self.next c.run.new.self.stack.items c.self.inside.gone) (g.D.Desk.view c.args.desk.now) (g.D.Desk.view c.run.new.desk) (g.B.Bench.made c.args.bench.now) (g.B.Bench.made c.run.new.bench) c.in-Blocked.k c.in_default.is c.in_default.is c.in-Blocked.ensures.told)

pub returns-in-Blocked-clause-nothing : goal.returns-in-Blocked-clause-nothing
returns-in-Blocked-clause-nothing g c = λ none.
    let some = c.in-Blocked.ensures.some (λ is. cc) in
    let many = ap (λ (s : Standing). length s.targets) c.self.view_is in
    absurd (omega (arith, some, many, none))

pub returns-in-Ready-clause-stands : goal.returns-in-Ready-clause-stands
returns-in-Ready-clause-stands g c =
    stands_on c.args.p.now (standing c.run.new.self.targets.items c.run.new.self.next c.run.new.self.stack.items c.self.inside.gone) (g.D.Desk.view c.run.new.desk)
    (able_same c.args.p.now c.self.inside.work.targets.items c.run.new.self.targets.items c.run.new.self.next c.run.new.self.stack.items (g.D.Desk.view c.run.new.desk) c.run.ensures.same c.run.ensures.able)
    c.in_default.is

pub returns-in-Ready-clause-told : goal.returns-in-Ready-clause-told
returns-in-Ready-clause-told g c =
    subst (λ (s : Standing). HasFinished c.args.p.now s (g.D.Desk.view c.args.desk.now) (g.B.Bench.made c.args.bench.now)
    (standing c.run.new.self.targets.items c.run.new.self.next c.run.new.self.stack.items c.self.inside.gone) (g.D.Desk.view c.run.new.desk) (g.B.Bench.made c.run.new.bench)) c.self.view_is
    (finished c.args.p.now (standing c.self.inside.work.targets.items c.self.inside.work.next c.self.inside.work.stack.items c.self.inside.gone)
    (standing c.run.new.self.targets.items c.run.new.self.next c.run.new.self.stack.items c.self.inside.gone) (g.D.Desk.view c.args.desk.now) (g.D.Desk.view c.run.new.desk) (g.B.Bench.made c.args.bench.now) (g.B.Bench.made c.run.new.bench) c.in_default.is c.in_default.is c.in-Ready.ensures.told c.run.ensures.able
    (c.in-Ready.ensures.done refl))

pub give_up-self-inside-requires : goal.give_up-self-inside-requires
give_up-self-inside-requires g c =
    let able = able_same c.args.p.now c.self.inside.work.targets.items c.run.new.self.targets.items c.run.new.self.next c.run.new.self.stack.items (g.D.Desk.view c.run.new.desk) c.run.ensures.same c.run.ensures.able in
    record { fits = subst (λ (p : PlanRecord). Fits p c.run.new.self.targets.items c.run.new.self.stack.items (g.D.Desk.view c.run.new.desk)) (sym c.run.ensures.plan) able.fits }

pub returns-in-Lost-clause-stands : goal.returns-in-Lost-clause-stands
returns-in-Lost-clause-stands g c =
    let able = able_over c.args.p.now (g.D.Desk.plan c.run.new.desk) c.self.inside.work.targets.items c.run.new.self.targets.items c.give_up-self-inside.new.self.targets.items
    c.run.new.self.next c.give_up-self-inside.new.self.next c.run.new.self.stack.items c.give_up-self-inside.new.self.stack.items (g.D.Desk.view c.run.new.desk) (g.D.Desk.view c.give_up-self-inside.new.desk) c.run.ensures.plan c.run.ensures.same
    c.give_up-self-inside.ensures.same.0 c.give_up-self-inside.ensures.same.1 c.run.ensures.able c.give_up-self-inside.ensures.told c.give_up-self-inside.ensures.fits c.give_up-self-inside.ensures.stack in
    let some = c.in-Lost.ensures.some (λ is. cc) in
    let many = ap (λ (l : List ℕ). length l) (c.give_up-self-inside.ensures.same.0 ∙ c.run.ensures.same) in
    stands_over c.args.p.now (standing c.give_up-self-inside.new.self.targets.items c.give_up-self-inside.new.self.next c.give_up-self-inside.new.self.stack.items (Some c.in-Lost.k)) (g.D.Desk.view c.give_up-self-inside.new.desk) able c.give_up-self-inside.ensures.stack (omega (arith, some, many))

pub returns-in-Lost-clause-told : goal.returns-in-Lost-clause-told
returns-in-Lost-clause-told g c =
    subst (λ (s : Standing). HasLost c.args.p.now s (g.D.Desk.view c.args.desk.now) (g.B.Bench.made c.args.bench.now) c.in-Lost.k
    (standing c.give_up-self-inside.new.self.targets.items c.give_up-self-inside.new.self.next c.give_up-self-inside.new.self.stack.items (Some c.in-Lost.k)) (g.D.Desk.view c.give_up-self-inside.new.desk) (g.B.Bench.made c.run.new.bench)) c.self.view_is
    (lost c.args.p.now (standing c.self.inside.work.targets.items c.self.inside.work.next c.self.inside.work.stack.items c.self.inside.gone)
    (standing c.give_up-self-inside.new.self.targets.items c.give_up-self-inside.new.self.next c.give_up-self-inside.new.self.stack.items (Some c.in-Lost.k)) c.run.new.self.stack.items (g.D.Desk.view c.args.desk.now) (g.D.Desk.view c.run.new.desk) (g.D.Desk.view c.give_up-self-inside.new.desk) (g.B.Bench.made c.args.bench.now) (g.B.Bench.made c.run.new.bench) c.in-Lost.k
    c.in_default.is refl c.in-Lost.ensures.told c.give_up-self-inside.ensures.told c.give_up-self-inside.ensures.stack)

pub returns-in-Lost-clause-nothing : goal.returns-in-Lost-clause-nothing
returns-in-Lost-clause-nothing g c = λ none.
    let some = c.in-Lost.ensures.some (λ is. cc) in
    let many = ap (λ (s : Standing). length s.targets) c.self.view_is in
    absurd (omega (arith, some, many, none))

pub give_up-last-requires : goal.give_up-last-requires
give_up-last-requires g c =
    let able = able_same c.args.p.now c.self.inside.work.targets.items c.run.new.self.targets.items c.run.new.self.next c.run.new.self.stack.items (g.D.Desk.view c.run.new.desk) c.run.ensures.same c.run.ensures.able in
    record { fits = subst (λ (p : PlanRecord). Fits p c.run.new.self.targets.items c.run.new.self.stack.items (g.D.Desk.view c.run.new.desk)) (sym c.run.ensures.plan) able.fits }

pub returns-in-Short-clause-stands : goal.returns-in-Short-clause-stands
returns-in-Short-clause-stands g c =
    let able = able_over c.args.p.now (g.D.Desk.plan c.run.new.desk) c.self.inside.work.targets.items c.run.new.self.targets.items c.give_up-last.new.self.targets.items
    c.run.new.self.next c.give_up-last.new.self.next c.run.new.self.stack.items c.give_up-last.new.self.stack.items (g.D.Desk.view c.run.new.desk) (g.D.Desk.view c.give_up-last.new.desk) c.run.ensures.plan c.run.ensures.same
    c.give_up-last.ensures.same.0 c.give_up-last.ensures.same.1 c.run.ensures.able c.give_up-last.ensures.told c.give_up-last.ensures.fits c.give_up-last.ensures.stack in
    let some = c.in-Short.ensures.some (λ is. cc) in
    let many = ap (λ (l : List ℕ). length l) (c.give_up-last.ensures.same.0 ∙ c.run.ensures.same) in
    stands_over c.args.p.now (standing c.give_up-last.new.self.targets.items c.give_up-last.new.self.next c.give_up-last.new.self.stack.items (Some c.lost_after.result)) (g.D.Desk.view c.give_up-last.new.desk) able c.give_up-last.ensures.stack (omega (arith, some, many))

pub lost_after-requires : goal.lost_after-requires
lost_after-requires g c =
    let some = c.in-Short.ensures.some (λ is. cc) in
    let many = ap (λ (l : List ℕ). length l) (c.give_up-last.ensures.same.0 ∙ c.run.ensures.same) in
    omega (arith, some, many)

pub returns-in-Short-clause-told : goal.returns-in-Short-clause-told
returns-in-Short-clause-told g c =
    let same = c.give_up-last.ensures.same.0 ∙ c.run.ensures.same in
    let gone = ap (λ n. Some n) (c.lost_after.ensures
    ∙ ap (λ o. lost_after o (slice_index c.give_up-last.new.self.targets.items 0)) c.give_up-last.ensures.last
    ∙ ap (λ (l : List ℕ). lost_after (last_or None c.run.new.self.stack.items) (slice_index l 0)) same) in
    subst (λ (s : Standing). FellShort c.args.p.now s (g.D.Desk.view c.args.desk.now) (g.B.Bench.made c.args.bench.now)
    (standing c.give_up-last.new.self.targets.items c.give_up-last.new.self.next c.give_up-last.new.self.stack.items (Some c.lost_after.result)) (g.D.Desk.view c.give_up-last.new.desk) (g.B.Bench.made c.run.new.bench)) c.self.view_is
    (short c.args.p.now (standing c.self.inside.work.targets.items c.self.inside.work.next c.self.inside.work.stack.items c.self.inside.gone)
    (standing c.give_up-last.new.self.targets.items c.give_up-last.new.self.next c.give_up-last.new.self.stack.items (Some c.lost_after.result)) c.run.new.self.stack.items (g.D.Desk.view c.args.desk.now) (g.D.Desk.view c.run.new.desk) (g.D.Desk.view c.give_up-last.new.desk) (g.B.Bench.made c.args.bench.now) (g.B.Bench.made c.run.new.bench)
    c.in_default.is gone c.in-Short.ensures.told c.give_up-last.ensures.told c.give_up-last.ensures.stack)
