use Rattle.std.proofs.Common.{[], ◌∷◌, refl}
use Rattle.std.proofs.lemmas.Result.{err_from_is_err_and}
use Rattle.xs_top.specs.declared.status.Status.TheVariants as answers
use Rattle.xs_top.specs.Trace.{ended}
use Rattle.xs_top.specs.Outcome.{showing, showing_scene}
use Rattle.xs_top.proofs.Parts.{runs_then, stopped_memory, leaves_nothing, leaves_then, quiet_then}
use Rattle.xs_top.proofs.Writing.{writes_run, writes_inside, line_quiet}
use Rattle.xs_top.proofs.shown.show_scene.Goals as goal

pub returns-in_err-good-clause-did : goal.returns-in_err-good-clause-did
unfolding showing
returns-in_err-good-clause-did g c = λ files e.
    let p = err_from_is_err_and c.from_residual.result c.from_residual.ensures.1 in
    rw (p.1, p.2) (c.in_err-good.ensures.did files e showing_scene)

pub returns-in_err-line-clause-did : goal.returns-in_err-line-clause-did
unfolding showing
returns-in_err-line-clause-did g c = λ files e.
    let p = err_from_is_err_and c.from_residual-in_err-line.result c.from_residual-in_err-line.ensures.1 in
    rw (p.1, p.2) (stopped_memory _ _ _ _ (c.in_ok-good.ensures.did files e showing_scene))

pub returns-in_err-line-clause-leaves : goal.returns-in_err-line-clause-leaves
returns-in_err-line-clause-leaves g c =
    let p = err_from_is_err_and c.from_residual-in_err-line.result c.from_residual-in_err-line.ensures.1 in
    let keeps = c.in_ok-good.ensures.keeps in
    rw (p.1, p.2) (leaves_then _ _ _ _ keeps.left (leaves_nothing _ _ refl refl))

pub returns-clause-did : goal.returns-clause-did
unfolding showing
returns-clause-did g c = λ files e.
    let loaded = c.in_ok-good.ensures.did files e showing_scene in
    let noted = rw (c.as_slice.ensures.value, c.in_ok-line.ensures) at (writes_run (Unit {0}) (c.as_slice.result.now ∷ []) (ended answers.Ok) (g.O.Outside.view c.load_scene.new.outside).seen (g.O.Outside.view c.note.new.self).seen _ refl c.note.ensures.wrote) in
    runs_then _ _ _ _ _ _ _ loaded c.in_ok-good.ensures.keeps.left noted

pub returns-clause-leaves : goal.returns-clause-leaves
returns-clause-leaves g c =
    let keeps = c.in_ok-good.ensures.keeps in
    leaves_then _ _ _ _ keeps.left c.note.ensures.leaves

pub returns-in_err-good-clause-quiet : goal.returns-in_err-good-clause-quiet
returns-in_err-good-clause-quiet g c = λ silent. c.in_err-good.ensures.keeps.notes

pub returns-in_err-line-clause-quiet : goal.returns-in_err-line-clause-quiet
returns-in_err-line-clause-quiet g c = λ silent. c.in_ok-good.ensures.keeps.notes

pub returns-clause-quiet : goal.returns-clause-quiet
returns-clause-quiet g c = quiet_then (g.O.Outside.view c.args.outside.now).seen (g.O.Outside.view c.load_scene.new.outside).seen (g.O.Outside.view c.note.new.self).seen _
    c.in_ok-good.ensures.keeps.notes (line_quiet (Unit {0}) _ (g.O.Outside.view c.load_scene.new.outside).seen (g.O.Outside.view c.note.new.self).seen _ c.note.ensures.wrote)

pub returns-clause-words : goal.returns-clause-words
returns-clause-words g c = writes_inside (Unit {0}) (c.as_slice.result.now ∷ []) (g.O.Outside.view c.load_scene.new.outside).seen (g.O.Outside.view c.note.new.self).seen _ c.note.ensures.wrote
