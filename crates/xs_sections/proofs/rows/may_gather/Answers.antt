use Rattle.std.proofs.Common.{subst}
use Rattle.xs_plan.specs.Record.{PlanRecord}
use Rattle.xs_core.specs.Views.{DeskOk}
use Rattle.xs_sections.proofs.RowLemmas.{may_gather}
use Rattle.xs_sections.proofs.rows.may_gather.Goals as goal

pub returns : goal.returns
returns g c =
    let p = c.args.p.now in
    let v = g.D.Desk.view c.args.desk.now in
    let ok : DeskOk c.args.p.now (g.D.Desk.view c.args.desk.now) =
    subst (λ (q : PlanRecord). DeskOk q (g.D.Desk.view c.args.desk.now)) c.requires.plan c.look_over.ensures in
    may_gather p c.args.s c.args.row v c.requires.chief c.requires.alone c.requires.row c.requires.here
    (λ k at. c.rows_of_a_section_may_be_gathered_in_any_order.ensures.ready p c.aliases.ensures.valid c.args.s v k c.requires.done ok at)
    c.requires.unserved
