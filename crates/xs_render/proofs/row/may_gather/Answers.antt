use Rattle.std.proofs.Common.{subst}
use Rattle.xs_plan.specs.Record.{PlanRecord}
use Rattle.xs_core.specs.Views.{DeskOk}
use Rattle.xs_render.proofs.RowLemmas.{may_gather}
use Rattle.xs_render.proofs.row.may_gather.Goals as goal

pub returns : goal.returns
returns g c =
    let v = g.D.Desk.view c.args.desk.now in
    let ok : DeskOk c.args.p.now (g.D.Desk.view c.args.desk.now) =
    subst (λ (q : PlanRecord). DeskOk q (g.D.Desk.view c.args.desk.now)) c.requires.plan c.look_over.ensures in
    may_gather c.args.p.now c.args.s c.args.i v c.requires.there c.requires.rendered
    (λ k at. c.rows_of_a_section_may_be_gathered_in_any_order.ensures.ready c.args.p.now c.aliases.ensures.valid c.args.s v k
    c.requires.rendered.done ok at)
