use Rattle.std.proofs.Common.{length}
use Rattle.xs_frames.specs.Rows.{root_reads}
use Rattle.xs_render.specs.Progress.{row_at}
use Rattle.xs_render.proofs.RowLemmas.{its_reads, rendered_more, recorded_still}
use Rattle.xs_render.proofs.row.render_row.Goals as goal

pub returns-in-Ok-clause-rendered : goal.returns-in-Ok-clause-rendered
returns-in-Ok-clause-rendered g c =
    let p = c.args.p.now in
    let s = c.args.s in
    let i = c.args.i in
    let v = g.D.Desk.view c.args.desk.now in
    let w = g.D.Desk.view c.advance.new.desk in
    let tells = c.a_row_has_the_reads_of_its_tiles.ensures in
    rendered_more tells p s i v w c.requires.rendered c.in-Ok.ensures.serves
    (c.rows_of_a_section_may_be_gathered_in_any_order.ensures.done p c.aliases.ensures.valid s v w (root_reads p (row_at s i) (length p.tiles))
    c.requires.rendered.done c.in-Ok.ensures.serves (λ e some. its_reads tells p s i e c.requires.there some))

pub returns-in-Ok-clause-recorded : goal.returns-in-Ok-clause-recorded
returns-in-Ok-clause-recorded g c = λ computed.
    recorded_still c.args.p.now (row_at c.args.s c.args.i) (g.D.Desk.view c.args.desk.now) (g.D.Desk.view c.advance.new.desk) computed
    c.in-Ok.ensures.serves

pub returns-in-Ok-clause-home : goal.returns-in-Ok-clause-home
returns-in-Ok-clause-home g c = c.in-Ok.ensures.serves.home
