use Rattle.std.proofs.Common.{length}
use Rattle.xs_frames.specs.Rows.{root_reads}
use Rattle.xs_sections.proofs.RowLemmas.{row_here}
use Rattle.xs_sections.proofs.rows.gather_row.Goals as goal

pub returns-in-Ok-clause-done : goal.returns-in-Ok-clause-done
returns-in-Ok-clause-done g c =
    let p = c.args.p.now in
    c.rows_of_a_section_may_be_gathered_in_any_order.ensures.done p c.aliases.ensures.valid c.args.s
    (g.D.Desk.view c.args.desk.now) (g.D.Desk.view c.advance.new.desk) (root_reads p c.args.row (length p.tiles)) c.requires.done
    c.in-Ok.ensures.serves
    (λ e some. row_here c.a_row_has_the_reads_of_its_tiles.ensures p c.args.s c.args.row e c.requires.row c.requires.here some)
