use Rattle.std.proofs.Common.{◌<◌, length, sym, subst, refl}
use Rattle.xs_plan.specs.Record.{PlanRecord}
use Rattle.xs_worker.specs.Reading.{IsReached}
use Rattle.xs_worker.proofs.GrewLemmas.{stays_same}
use Rattle.xs_worker.proofs.WorkLemmas.{input_fits, fetched_ready}
use Rattle.xs_worker.proofs.work.Work.input.Goals as goal

pub fetch-requires-clause-reached : goal.fetch-requires-clause-reached
fetch-requires-clause-reached g c =
    let at = input_fits c.args.p.now c.args.self.now.targets.items c.args.self.now.stack.items (g.D.Desk.view c.args.desk.now) c.args.k c.args.port
    c.in-Some.i c.requires.fits c.requires.tells c.requires.top (sym c.in-Some.ensures) in
    subst (λ (p : PlanRecord). IsReached p c.args.self.now.targets.items c.in-Some.i) (sym c.requires.plan) at.0

pub fetch-requires-clause-there : goal.fetch-requires-clause-there
fetch-requires-clause-there g c =
    let at = input_fits c.args.p.now c.args.self.now.targets.items c.args.self.now.stack.items (g.D.Desk.view c.args.desk.now) c.args.k c.args.port
    c.in-Some.i c.requires.fits c.requires.tells c.requires.top (sym c.in-Some.ensures) in
    subst (λ (p : PlanRecord). c.in-Some.i < length p.entries) (sym c.requires.plan) at.1

pub fetch-requires-clause-below : goal.fetch-requires-clause-below
fetch-requires-clause-below g c =
    let at = input_fits c.args.p.now c.args.self.now.targets.items c.args.self.now.stack.items (g.D.Desk.view c.args.desk.now) c.args.k c.args.port
    c.in-Some.i c.requires.fits c.requires.tells c.requires.top (sym c.in-Some.ensures) in
    at.2

pub returns-in-None-clause-told : goal.returns-in-None-clause-told
returns-in-None-clause-told g c = λ b.
    fetched_ready c.args.p.now c.args.self.now.targets.items c.args.self.now.stack.items c.args.self.now.stack.items
    (g.D.Desk.view c.args.desk.now) (g.D.Desk.view c.args.desk.now) b c.requires.fits (stays_same (g.D.Desk.view c.args.desk.now)) refl
