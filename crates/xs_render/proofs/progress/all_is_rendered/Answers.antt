use Rattle.std.proofs.Common.{subst}
use Rattle.xs_plan.specs.Record.{PlanRecord}
use Rattle.xs_core.specs.Views.{DeskOk}
use Rattle.xs_render.proofs.EndLemmas.{Facts, all_over, each_once}
use Rattle.xs_render.proofs.progress.all_is_rendered.Goals as goal

pub returns : goal.returns
returns g c =
    let p = c.args.p.now in
    let v = g.D.Desk.view c.args.desk.now in
    let valid = c.aliases.ensures.valid in
    let reads = c.reads_have_their_sources.ensures in
    let ok : DeskOk c.args.p.now (g.D.Desk.view c.args.desk.now) =
    subst (λ (q : PlanRecord). DeskOk q (g.D.Desk.view c.args.desk.now)) c.requires.plan c.look_over.ensures in
    let facts : Facts c.args.p.now = record {
      valid = valid;
      first = c.aliases_come_with_the_first_row_that_reaches_them.ensures.there p valid;
      are = reads.sources p;
      roots = reads.roots p valid;
      exist = reads.exist p valid;
      none = c.live_aliases_are_read_later.ensures.none p valid;
      held = c.what_is_held_after_a_section_is_read_later.ensures.held p valid;
    } in
    let over = all_over p v facts ok c.requires.ready in
    record { over = over; computed = λ computed. each_once p v computed over }
