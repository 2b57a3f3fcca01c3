use Rattle.std.proofs.Common.{[], ◌∷◌, ◌++◌, length, ap, ◌∙◌}
use Rattle.std.proofs.lemmas.Result.{err_from_is_err_and}
use Rattle.xs_top.proofs.Pieces.{wants_lines, piece_stops}
use Rattle.xs_top.proofs.demand.note_piece.Goals as goal

pub returns-in_err-next-clause-wrote : goal.returns-in_err-next-clause-wrote
returns-in_err-next-clause-wrote g c =
    let p = err_from_is_err_and c.from_residual.result c.from_residual.ensures.1 in
    rw (p.1, p.2) (wants_lines c.args.plan.now c.args.from (length c.args.plan.now.entries) (g.O.Outside.view c.args.outside.now).seen c.requires)

pub returns-in_err-note-clause-wrote : goal.returns-in_err-note-clause-wrote
returns-in_err-note-clause-wrote g c =
    let p = err_from_is_err_and c.from_residual-in_err-note.result c.from_residual-in_err-note.ensures.1 in
    let next = c.in_ok-next.ensures.next in
    rw (p.1, p.2)
    (piece_stops c.a_front_part_of_lines_ends_in_one_of_them.ensures c.args.plan.now c.args.from c.in_ok-next.next _ next.0
    (ap (λ text. text ++ 10 ∷ []) c.as_slice.ensures.value ∙ c.in_ok-next.ensures.lines)
    (g.O.Outside.view c.args.outside.now).seen (g.O.Outside.view c.note.new.self).seen (length c.args.plan.now.entries) _ next.1
    c.in_err-note.ensures.wrote)
