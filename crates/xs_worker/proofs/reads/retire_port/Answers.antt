use Rattle.std.proofs.Common.{sym, subst}
use Rattle.xs_plan.specs.Record.{PlanRecord}
use Rattle.xs_core.specs.Views.{MayRead}
use Rattle.xs_worker.proofs.reads.retire_port.Goals as goal

pub retire-requires : goal.retire-requires
retire-requires g c =
    subst (λ (p : PlanRecord). MayRead p (g.D.Desk.view c.args.desk.now) c.in-Some.e) (sym c.requires.plan)
    (c.requires.may c.in-Some.e (sym c.in-Some.ensures))
