use Rattle.std.proofs.Common.{[], ◌<◌, refl, sym, subst}
use Rattle.xs_plan.specs.Record.{PlanRecord}
use Rattle.xs_core.specs.Views.{DeskOk, times}
use Rattle.xs_worker.proofs.GrewLemmas.{went_nowhere}
use Rattle.xs_worker.proofs.StepLemmas.{may_read}
use Rattle.xs_worker.proofs.WorkLemmas.{may_after, top_below, short_nowhere, made_turn, made_done}
use Rattle.xs_worker.proofs.work.Work.make.Goals as goal

pub compute-requires-clause-may : goal.compute-requires-clause-may
compute-requires-clause-may g c =
    may_read c.args.p.now c.args.self.now.targets.items c.args.self.now.stack.items (g.D.Desk.view c.args.desk.now) c.args.k c.requires.fits
    c.requires.top c.requires.tells
    (subst (λ (p : PlanRecord). DeskOk p (g.D.Desk.view c.args.desk.now)) c.requires.plan (g.met.D.Desk.sound c.args.desk.now)) c.requires.first
    c.requires.second

pub conclude-requires-clause-fits : goal.conclude-requires-clause-fits
conclude-requires-clause-fits g c =
    let went = went_nowhere c.args.p.now c.args.self.now.targets.items c.args.self.now.stack.items (g.D.Desk.view c.args.desk.now)
    (g.D.Desk.view c.compute.new.desk) [] [] [] c.requires.fits c.in-Done.ensures.told.0 refl in
    went.fits

pub conclude-requires-clause-may : goal.conclude-requires-clause-may
conclude-requires-clause-may g c = λ port e is.
    let may = may_read c.args.p.now c.args.self.now.targets.items c.args.self.now.stack.items (g.D.Desk.view c.args.desk.now) c.args.k c.requires.fits
    c.requires.top c.requires.tells
    (subst (λ (p : PlanRecord). DeskOk p (g.D.Desk.view c.args.desk.now)) c.requires.plan (g.met.D.Desk.sound c.args.desk.now)) c.requires.first
    c.requires.second port e is in
    may_after c.args.p.now (g.D.Desk.view c.args.desk.now) (g.D.Desk.view c.compute.new.desk) [] [] e c.in-Done.ensures.told.0 refl may

pub returns-in-Done-clause-told : goal.returns-in-Done-clause-told
returns-in-Done-clause-told g c =
    made_done c.args.p.now c.args.self.now.targets.items c.args.self.now.stack.items c.conclude.new.self.stack.items (g.D.Desk.view c.args.desk.now)
    (g.D.Desk.view c.compute.new.desk) (g.D.Desk.view c.conclude.new.desk) (g.B.Bench.made c.args.bench.now) (g.B.Bench.made c.compute.new.bench) c.args.k
    c.requires.fits c.requires.top c.requires.tells c.in-Done.ensures.told.0 c.conclude.ensures.told c.in-Done.ensures.told.2 c.conclude.ensures.stack

pub returns-in-Turn-clause-told : goal.returns-in-Turn-clause-told
returns-in-Turn-clause-told g c =
    made_turn c.args.p.now c.args.self.now.targets.items c.args.self.now.stack.items (g.D.Desk.view c.args.desk.now) (g.D.Desk.view c.compute.new.desk)
    (g.B.Bench.made c.args.bench.now) (g.B.Bench.made c.compute.new.bench) c.args.k c.in-Turn.i c.requires.fits c.requires.top
    c.in-Turn.ensures.told.0 c.in-Turn.ensures.told.1 c.in-Turn.ensures.told.2

pub returns-in-Short-clause-told : goal.returns-in-Short-clause-told
returns-in-Short-clause-told g c =
    let at = top_below c.args.p.now c.args.self.now.targets.items c.args.self.now.stack.items c.args.k c.requires.fits.chain c.requires.top in
    let more = c.in-Short.ensures.told.1 in
    short_nowhere c.args.p.now c.args.self.now.targets.items c.args.self.now.stack.items c.args.self.now.stack.items (g.D.Desk.view c.args.desk.now)
    (g.D.Desk.view c.compute.new.desk) (g.B.Bench.made c.args.bench.now) (g.B.Bench.made c.compute.new.bench) more.0 c.requires.fits refl
    c.in-Short.ensures.told.0 more.3 more.1
    (λ j some. subst (λ i. 0 < times i c.args.self.now.stack.items) (sym (more.2 j some)) at.2)
