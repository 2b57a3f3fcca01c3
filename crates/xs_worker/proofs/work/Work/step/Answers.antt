use Rattle.std.proofs.Common.{◌<◌, length, ◌∙◌, sym, subst}
use Rattle.xs_plan.specs.Record.{PlanRecord}
use Rattle.xs_worker.specs.Reading.{TellsReads, IsReached}
use Rattle.xs_worker.specs.Claims.{Fits}
use Rattle.xs_worker.specs.Steps.{StepTells}
use Rattle.xs_worker.proofs.RunLemmas.{top_none, none_below}
use Rattle.xs_worker.proofs.work.Work.step.Goals as goal

pub returns-in-None-clause-told : goal.returns-in-None-clause-told
returns-in-None-clause-told g c =
    subst (λ (p : PlanRecord). StepTells p c.args.self.now.targets.items c.args.self.now.stack.items (g.D.Desk.view c.args.desk.now)
    (g.B.Bench.made c.args.bench.now) c.fetch.result c.fetch.new.self.stack.items (g.D.Desk.view c.fetch.new.desk)
    (g.B.Bench.made c.args.bench.now)) c.requires.plan (c.fetch.ensures.told (g.B.Bench.made c.args.bench.now))

pub returns-in-None-clause-ready : goal.returns-in-None-clause-ready
returns-in-None-clause-ready g c = λ is.
    (c.fetch.ensures.known is, c.fetch.ensures.kept is ∙ top_none c.args.self.now.stack.items (sym c.in-None.ensures))

pub returns-in-Some-clause-ready : goal.returns-in-Some-clause-ready
returns-in-Some-clause-ready g c = λ is. absurd (c.lead.ensures.never is)

pub fetch-requires-clause-tells : goal.fetch-requires-clause-tells
fetch-requires-clause-tells g c = subst (λ (p : PlanRecord). TellsReads p) (sym c.requires.plan) c.requires.tells

pub fetch-requires-clause-fits : goal.fetch-requires-clause-fits
fetch-requires-clause-fits g c =
    subst (λ (p : PlanRecord). Fits p c.args.self.now.targets.items c.args.self.now.stack.items (g.D.Desk.view c.args.desk.now))
    (sym c.requires.plan) c.requires.fits

pub fetch-requires-clause-reached : goal.fetch-requires-clause-reached
fetch-requires-clause-reached g c =
    subst (λ (p : PlanRecord). IsReached p c.args.self.now.targets.items c.args.target) (sym c.requires.plan) c.requires.reached

pub fetch-requires-clause-there : goal.fetch-requires-clause-there
fetch-requires-clause-there g c =
    subst (λ (p : PlanRecord). c.args.target < length p.entries) (sym c.requires.plan) c.requires.there

pub fetch-requires-clause-below : goal.fetch-requires-clause-below
fetch-requires-clause-below g c = λ j some. none_below c.args.self.now.stack.items c.args.target j (sym c.in-None.ensures) some
