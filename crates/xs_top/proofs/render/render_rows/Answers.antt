use Rattle.std.proofs.Common.{◌∙◌}
use Rattle.std.proofs.lemmas.Result.{err_from_is_err_and}
use Rattle.xs_word_desk.specs.Desks.{desk_view}
use Rattle.xs_top.proofs.Closing.{closed_whole}
use Rattle.xs_top.proofs.Parts.{stopped_here}
use Rattle.xs_top.proofs.render.render_rows.Goals as goal

pub returns-in_err-cache-clause-did : goal.returns-in_err-cache-clause-did
returns-in_err-cache-clause-did g c = λ to all ordered files e next.
    let p = err_from_is_err_and c.from_residual.result c.from_residual.ensures.1 in
    rw (p.1, p.2) (stopped_here _ _)

pub returns-clause-closed : goal.returns-clause-closed
returns-clause-closed g c =
    let plan = c.in_ok-cache.ensures.plan in
    let view = c.leave-pass.ensures.view in
    closed_whole c.args.p.now c.close.result (desk_view c.leave-pass.result.seat.table_id c.leave-pass.result.seat.me.0) (c.close.ensures.plan ∙ plan) c.close.ensures.made c.close.ensures.served (rw plan at c.close.ensures.tiles)
    (rw view c.in_ok-render_sections.ensures.over) (rw (view, ← c.in_ok-render_sections.ensures.plan) c.look_over.ensures)
