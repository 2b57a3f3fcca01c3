use Rattle.std.proofs.Common.{subst, sym, arith}
use Rattle.xs_plan.specs.Record.{PlanRecord}
use Rattle.xs_core.specs.Views.{MayRead}
use Rattle.xs_cache_timing.proofs.BlockLemmas.{may_read, served_stays}
use Rattle.xs_cache_timing.proofs.seat.read.Goals as goal

pub read-requires : goal.read-requires
read-requires g c =
    let v = g.D.Desk.view c.args.desk.now in
    subst (λ (p : PlanRecord). MayRead p v c.args.e) (sym c.requires.plan)
    (may_read c.args.p.now c.args.block c.args.e 0 v c.requires.unserved
    (c.requires.block.inside c.args.e c.requires.own.0 c.requires.own.1) (omega (arith, c.requires.own.1, c.requires.block.reads)) (omega arith))

pub returns-in-Ok-Got-clause-unserved : goal.returns-in-Ok-Got-clause-unserved
returns-in-Ok-Got-clause-unserved g c =
    served_stays c.args.block 0 _ _ c.requires.unserved
    (c.seats_may_go_on.ensures.reading _ _ _ _ c.args.e c.in-Ok-Got.field-0 c.in-Ok-Got.ensures.told)
