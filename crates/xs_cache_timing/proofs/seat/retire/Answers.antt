use Rattle.std.proofs.Common.{subst, sym, arith}
use Rattle.xs_plan.specs.Record.{PlanRecord}
use Rattle.xs_core.specs.Views.{MayRead}
use Rattle.xs_cache_timing.proofs.BlockLemmas.{may_read, served_next}
use Rattle.xs_cache_timing.proofs.seat.retire.Goals as goal

pub retire-requires : goal.retire-requires
retire-requires g c =
    let v = g.D.Desk.view c.args.desk.now in
    subst (λ (p : PlanRecord). MayRead p v c.args.e) (sym c.requires.plan)
    (may_read c.args.p.now c.args.block c.args.e c.args.e v c.requires.served
    (c.requires.block.inside c.args.e c.requires.own.0 c.requires.own.1) (omega (arith, c.requires.own.1, c.requires.block.reads)) (omega arith))

pub returns-clause-served : goal.returns-clause-served
returns-clause-served g c =
    served_next (g.D.Desk.plan c.args.desk.now) c.args.block c.args.e _ (g.D.Desk.view c.args.desk.now)
    (g.D.Desk.view c.retire.new.self) c.requires.served c.retire.ensures.told
