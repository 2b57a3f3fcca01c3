use Rattle.std.proofs.Common.{◌≡◌, ◌∙◌, ◌+◌, ◌-◌, [], ◌∷◌, Ok, Err, refl, ap, arith}
use Rattle.std.proofs.lemmas.Result.{err_from_is_err_and}
use Rattle.xs_plan.specs.Record.{rows_in}
use Rattle.xs_top.specs.declared.status.Status.TheVariants as answers
use Rattle.xs_top.specs.Trace.{ended}
use Rattle.xs_top.specs.Outcome.{rendering, rendering_scene, closing, rendered_line}
use Rattle.xs_top.proofs.Demanding.{plan_stopped, plan_leaves, plan_inside, rendering_shown, computed_once}
use Rattle.xs_top.proofs.Parts.{did_to, did_then, stopped_then, leaves_then, quiet_then, keeps_then}
use Rattle.xs_top.proofs.Progressing.{recorded_none}
use Rattle.xs_top.proofs.Writing.{writes_run, writes_inside, line_quiet}
use Rattle.xs_top.proofs.render.render.Goals as goal

pub returns-in_err-good-clause-did : goal.returns-in_err-good-clause-did
unfolding rendering
returns-in_err-good-clause-did g c = λ files e.
    let p = err_from_is_err_and c.from_residual.result c.from_residual.ensures.1 in
    rw (p.1, p.2) (c.in_err-good.ensures.did files e (rendering_scene files c.args.from c.args.to c.args.base.now))

pub returns-in_err-good-clause-quiet : goal.returns-in_err-good-clause-quiet
returns-in_err-good-clause-quiet g c = λ silent. c.in_err-good.ensures.keeps.notes

pub returns-in_err-good-clause-twice : goal.returns-in_err-good-clause-twice
returns-in_err-good-clause-twice g c = recorded_none _ c.requires.unused

pub returns-in_err-p-clause-did : goal.returns-in_err-p-clause-did
unfolding rendering
returns-in_err-p-clause-did g c = λ files e.
    let p = err_from_is_err_and c.from_residual-in_err-p.result c.from_residual-in_err-p.ensures.1 in
    let loaded = c.in_ok-good.ensures.did files e (rendering_scene files c.args.from c.args.to c.args.base.now) in
    rw (p.1, p.2)
    (stopped_then _ _ _ _ _ _ loaded c.in_ok-good.ensures.keeps.left
    (plan_stopped c.in_ok-good.good c.args.from c.args.to _ (g.O.Outside.view c.load_scene.new.outside).seen c.in_err-p.field-0.0 (λ what limit is. c.in_err-p.ensures.limited what limit (ap Err is))))

pub returns-in_err-p-clause-leaves : goal.returns-in_err-p-clause-leaves
returns-in_err-p-clause-leaves g c =
    let p = err_from_is_err_and c.from_residual-in_err-p.result c.from_residual-in_err-p.ensures.1 in
    rw (p.1, p.2) (leaves_then _ _ _ _ c.in_ok-good.ensures.keeps.left (plan_leaves (g.O.Outside.view c.load_scene.new.outside).seen c.in_err-p.field-0.0))

pub returns-in_err-p-clause-quiet : goal.returns-in_err-p-clause-quiet
returns-in_err-p-clause-quiet g c = λ silent. c.in_ok-good.ensures.keeps.notes

pub returns-in_err-p-clause-words : goal.returns-in_err-p-clause-words
returns-in_err-p-clause-words g c =
    let p = err_from_is_err_and c.from_residual-in_err-p.result c.from_residual-in_err-p.ensures.1 in
    rw (p.1, p.2) (plan_inside c.in_err-p.field-0.0)

pub returns-in_err-p-clause-twice : goal.returns-in_err-p-clause-twice
returns-in_err-p-clause-twice g c = recorded_none _ c.requires.unused

pub render_rows-requires-clause-film : goal.render_rows-requires-clause-film
render_rows-requires-clause-film g c = refl

pub render_rows-requires-clause-scene : goal.render_rows-requires-clause-scene
render_rows-requires-clause-scene g c =
    let many = c.sections_of_a_plan_are_those_of_its_rows.ensures.rows c.in_ok-good.good c.args.from (c.args.to + 1 - c.args.from) c.in_ok-p.p c.in_ok-p.ensures.shows in
    rw many c.in_ok-p.ensures.shows

pub render_rows-requires-clause-range : goal.render_rows-requires-clause-range
render_rows-requires-clause-range g c =
    let many = c.sections_of_a_plan_are_those_of_its_rows.ensures.rows c.in_ok-good.good c.args.from (c.args.to + 1 - c.args.from) c.in_ok-p.p c.in_ok-p.ensures.shows in
    let range = c.requires.range in
    let first = range.1 in
    let last = range.2 in
    omega (arith, many, first, last)

pub returns-in_err-closed-clause-did : goal.returns-in_err-closed-clause-did
unfolding rendering
returns-in_err-closed-clause-did g c = λ files e.
    let p = err_from_is_err_and c.from_residual-in_err-closed.result c.from_residual-in_err-closed.ensures.1 in
    let s = c.in_ok-good.good in
    let loaded = c.in_ok-good.ensures.did files e (rendering_scene files c.args.from c.args.to c.args.base.now) in
    let keeps = c.in_ok-good.ensures.keeps in
    let many = c.sections_of_a_plan_are_those_of_its_rows.ensures.rows s c.args.from (c.args.to + 1 - c.args.from) c.in_ok-p.p c.in_ok-p.ensures.shows in
    let range = c.requires.range in
    let all : c.args.from + rows_in c.in_ok-p.p ≡ c.args.to + 1 = omega (arith, many, range.1) in
    let same = rendering_shown c.a_shown_plan_is_the_plan.ensures files s c.args.base.now c.args.from c.args.to c.in_ok-p.p
    c.in_ok-p.ensures.shows c.in_ok-p.ensures.drawings c.in_ok-p.ensures.none in
    rw (p.1, p.2)
    (stopped_then _ _ _ _ _ _ (did_to _ _ _ _ _ loaded same) keeps.left
    (c.in_err-closed.ensures.did c.args.to all range.1 files (keeps.left.files ∙ e) (closing c.in_ok-p.p)))

pub returns-in_err-closed-clause-leaves : goal.returns-in_err-closed-clause-leaves
returns-in_err-closed-clause-leaves g c =
    let p = err_from_is_err_and c.from_residual-in_err-closed.result c.from_residual-in_err-closed.ensures.1 in
    let keeps = keeps_then _ _ _ _ c.in_ok-good.ensures.keeps c.in_err-closed.ensures.keeps in
    rw (p.1, p.2) keeps.left

pub returns-in_err-closed-clause-quiet : goal.returns-in_err-closed-clause-quiet
returns-in_err-closed-clause-quiet g c = λ silent.
    (keeps_then _ _ _ _ c.in_ok-good.ensures.keeps c.in_err-closed.ensures.keeps).notes

pub returns-clause-did : goal.returns-clause-did
unfolding rendering closing
returns-clause-did g c = λ files e.
    let s = c.in_ok-good.good in
    let loaded = c.in_ok-good.ensures.did files e (rendering_scene files c.args.from c.args.to c.args.base.now) in
    let many = c.sections_of_a_plan_are_those_of_its_rows.ensures.rows s c.args.from (c.args.to + 1 - c.args.from) c.in_ok-p.p c.in_ok-p.ensures.shows in
    let range = c.requires.range in
    let all : c.args.from + rows_in c.in_ok-p.p ≡ c.args.to + 1 = omega (arith, many, range.1) in
    let same = rendering_shown c.a_shown_plan_is_the_plan.ensures files s c.args.base.now c.args.from c.args.to c.in_ok-p.p
    c.in_ok-p.ensures.shows c.in_ok-p.ensures.drawings c.in_ok-p.ensures.none in
    let rendered = c.in_ok-closed.ensures.did c.args.to all range.1 files (c.in_ok-good.ensures.keeps.left.files ∙ e) (closing c.in_ok-p.p) in
    did_then (did_then (did_to _ _ _ _ _ loaded same) rendered)
    (writes_run (Unit {0}) (rendered_line c.in_ok-p.p ∷ []) (ended answers.Ok) (g.O.Outside.view c.render_rows.new.outside).seen (g.O.Outside.view c.note_rows.new.outside).seen (Ok tt) refl c.in_ok-note_rows.ensures.wrote)

pub returns-in_err-note_rows-clause-did : goal.returns-in_err-note_rows-clause-did
unfolding rendering closing
returns-in_err-note_rows-clause-did g c = λ files e.
    let p = err_from_is_err_and c.from_residual-in_err-note_rows.result c.from_residual-in_err-note_rows.ensures.1 in
    let s = c.in_ok-good.good in
    let loaded = c.in_ok-good.ensures.did files e (rendering_scene files c.args.from c.args.to c.args.base.now) in
    let many = c.sections_of_a_plan_are_those_of_its_rows.ensures.rows s c.args.from (c.args.to + 1 - c.args.from) c.in_ok-p.p c.in_ok-p.ensures.shows in
    let range = c.requires.range in
    let all : c.args.from + rows_in c.in_ok-p.p ≡ c.args.to + 1 = omega (arith, many, range.1) in
    let same = rendering_shown c.a_shown_plan_is_the_plan.ensures files s c.args.base.now c.args.from c.args.to c.in_ok-p.p
    c.in_ok-p.ensures.shows c.in_ok-p.ensures.drawings c.in_ok-p.ensures.none in
    let rendered = c.in_ok-closed.ensures.did c.args.to all range.1 files (c.in_ok-good.ensures.keeps.left.files ∙ e) (closing c.in_ok-p.p) in
    let keeps = keeps_then _ _ _ _ c.in_ok-good.ensures.keeps c.in_ok-closed.ensures.keeps in
    rw (p.1, p.2)
    (stopped_then _ _ _ _ _ _ (did_then (did_to _ _ _ _ _ loaded same) rendered) keeps.left
    (writes_run (Unit {0}) (rendered_line c.in_ok-p.p ∷ []) (ended answers.Ok) (g.O.Outside.view c.render_rows.new.outside).seen (g.O.Outside.view c.note_rows.new.outside).seen (Err c.in_err-note_rows.field-0.0) refl c.in_err-note_rows.ensures.wrote))

pub returns-in_err-note_rows-clause-leaves : goal.returns-in_err-note_rows-clause-leaves
returns-in_err-note_rows-clause-leaves g c =
    let p = err_from_is_err_and c.from_residual-in_err-note_rows.result c.from_residual-in_err-note_rows.ensures.1 in
    let keeps = keeps_then _ _ _ _ c.in_ok-good.ensures.keeps c.in_ok-closed.ensures.keeps in
    rw (p.1, p.2) (leaves_then _ _ _ _ keeps.left c.in_err-note_rows.ensures.leaves)

pub returns-in_err-note_rows-clause-quiet : goal.returns-in_err-note_rows-clause-quiet
returns-in_err-note_rows-clause-quiet g c =
    let p = err_from_is_err_and c.from_residual-in_err-note_rows.result c.from_residual-in_err-note_rows.ensures.1 in
    let keeps = keeps_then _ _ _ _ c.in_ok-good.ensures.keeps c.in_ok-closed.ensures.keeps in
    rw (p.1, p.2)
    (quiet_then (g.O.Outside.view c.args.outside.now).seen (g.O.Outside.view c.render_rows.new.outside).seen
    (g.O.Outside.view c.note_rows.new.outside).seen _ keeps.notes
    (line_quiet (Unit {0}) (rendered_line c.in_ok-p.p) (g.O.Outside.view c.render_rows.new.outside).seen (g.O.Outside.view c.note_rows.new.outside).seen (Err c.in_err-note_rows.field-0.0) c.in_err-note_rows.ensures.wrote))

pub returns-in_err-note_rows-clause-words : goal.returns-in_err-note_rows-clause-words
returns-in_err-note_rows-clause-words g c =
    let p = err_from_is_err_and c.from_residual-in_err-note_rows.result c.from_residual-in_err-note_rows.ensures.1 in
    rw (p.1, p.2) (writes_inside (Unit {0}) (rendered_line c.in_ok-p.p ∷ []) (g.O.Outside.view c.render_rows.new.outside).seen (g.O.Outside.view c.note_rows.new.outside).seen (Err c.in_err-note_rows.field-0.0) c.in_err-note_rows.ensures.wrote)

pub returns-clause-leaves : goal.returns-clause-leaves
returns-clause-leaves g c =
    let keeps = keeps_then _ _ _ _ c.in_ok-good.ensures.keeps c.in_ok-closed.ensures.keeps in
    leaves_then _ _ _ _ keeps.left c.in_ok-note_rows.ensures.leaves

pub returns-clause-quiet : goal.returns-clause-quiet
returns-clause-quiet g c = λ silent. absurd cc

pub returns-clause-words : goal.returns-clause-words
returns-clause-words g c = refl

pub returns-clause-once : goal.returns-clause-once
returns-clause-once g c =
    computed_once c.a_shown_plan_is_the_plan.ensures _ c.args.scene.now c.args.from c.args.to c.in_ok-good.good c.in_ok-p.p _ _
    c.in_ok-p.ensures.shows c.in_ok-p.ensures.drawings c.in_ok-p.ensures.none c.in_ok-good.ensures.says c.in_ok-good.ensures.faultless
    c.in_ok-closed.ensures.each c.in_ok-closed.ensures.closed
