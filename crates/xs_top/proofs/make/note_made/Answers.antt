use Rattle.std.proofs.lemmas.Result.{err_from_is_err_and}
use Rattle.xs_top.proofs.Writing.{wants_memory}
use Rattle.xs_top.proofs.make.note_made.Goals as goal

pub returns-in_err-line-clause-wrote : goal.returns-in_err-line-clause-wrote
returns-in_err-line-clause-wrote g c =
    let p = err_from_is_err_and c.from_residual.result c.from_residual.ensures.1 in
    rw (p.1, p.2) (wants_memory _ _ (g.O.Outside.view c.args.outside.now).seen)

pub returns-clause-wrote : goal.returns-clause-wrote
returns-clause-wrote g c = rw (c.as_bytes.ensures.value, c.in_ok-line.ensures) at c.note.ensures.wrote
