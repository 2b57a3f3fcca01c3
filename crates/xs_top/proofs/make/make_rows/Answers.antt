use Rattle.std.proofs.Common.{◌≡◌, ◌∙◌, ◌+◌, ◌-◌, Ok, Err, refl, sym, ap, arith}
use Rattle.std.proofs.lemmas.Result.{err_from_is_err_and}
use Rattle.xs_make.specs.Scenes.{scene_from}
use Rattle.xs_plan.specs.Record.{rows_in}
use Rattle.xs_top.specs.Demand.{plan_in}
use Rattle.xs_top.specs.Generated.{made_files, made_sum}
use Rattle.xs_top.specs.Outcome.{summing}
use Rattle.xs_top.proofs.Demanding.{computed_rows}
use Rattle.xs_top.proofs.Making.{making_unplanned, making_shown, making_noted, made_total}
use Rattle.xs_top.proofs.Parts.{did_to, did_then, stopped_here, stopped_then, leaves_then, quiet_then}
use Rattle.xs_top.proofs.Writing.{line_quiet}
use Rattle.xs_top.proofs.make.make_rows.Goals as goal

pub returns-in_err-p-clause-did : goal.returns-in_err-p-clause-did
returns-in_err-p-clause-did g c = λ files e.
    let p = err_from_is_err_and c.from_residual.result c.from_residual.ensures.1 in
    rw (p.1, p.2)
    (making_unplanned c.args.seed c.args.rows (g.O.Outside.view c.args.outside.now).seen c.in_err-p.field-0.0
    (λ what limit is. rw c.requires.scene at (c.in_err-p.ensures.limited what limit (ap Err is))))

pub returns-in_err-base-clause-did : goal.returns-in_err-base-clause-did
returns-in_err-base-clause-did g c = λ files e.
    let p = err_from_is_err_and c.from_residual-in_err-base.result c.from_residual-in_err-base.ensures.1 in
    rw (p.1, p.2) (stopped_here _ _)

pub render_rows-requires-clause-film : goal.render_rows-requires-clause-film
render_rows-requires-clause-film g c = refl

pub render_rows-requires-clause-scene : goal.render_rows-requires-clause-scene
render_rows-requires-clause-scene g c =
    rw (c.sections_of_a_plan_are_those_of_its_rows.ensures.rows c.args.good.now 1 (c.args.rows + 1 - 1) c.in_ok-p.p c.in_ok-p.ensures.shows)
    c.in_ok-p.ensures.shows

pub returns-in_err-closed-clause-did : goal.returns-in_err-closed-clause-did
returns-in_err-closed-clause-did g c = λ files e.
    let p = err_from_is_err_and c.from_residual-in_err-closed.result c.from_residual-in_err-closed.ensures.1 in
    let scene = scene_from c.args.seed c.args.rows in
    let many = c.sections_of_a_plan_are_those_of_its_rows.ensures.rows c.args.good.now 1 (c.args.rows + 1 - 1) c.in_ok-p.p c.in_ok-p.ensures.shows in
    let all : 1 + rows_in c.in_ok-p.p ≡ c.args.rows + 1 = omega (arith, many) in
    let shown = making_shown c.a_shown_plan_is_the_plan.ensures c.args.seed c.args.rows c.in_ok-p.p
    (rw c.requires.scene at c.in_ok-p.ensures.shows) (rw c.requires.scene at c.in_ok-p.ensures.drawings) (rw c.requires.scene at c.in_ok-p.ensures.none) in
    let run = c.in_err-closed.ensures.did c.args.rows all c.requires.least (made_files c.args.seed) c.requires.files
    (summing c.args.seed c.args.rows (plan_in scene 1 c.args.rows)) in
    rw (p.1, p.2, shown) (rw (c.requires.scene, c.in_ok-base.ensures) at run)

pub returns-in_err-closed-clause-leaves : goal.returns-in_err-closed-clause-leaves
returns-in_err-closed-clause-leaves g c =
    let p = err_from_is_err_and c.from_residual-in_err-closed.result c.from_residual-in_err-closed.ensures.1 in
    rw (p.1, p.2) c.in_err-closed.ensures.keeps.left

pub returns-in_err-note_made-clause-did : goal.returns-in_err-note_made-clause-did
returns-in_err-note_made-clause-did g c = λ files e.
    let p = err_from_is_err_and c.from_residual-in_err-note_made.result c.from_residual-in_err-note_made.ensures.1 in
    let scene = scene_from c.args.seed c.args.rows in
    let law = c.a_shown_plan_is_the_plan.ensures in
    let shows = rw c.requires.scene at c.in_ok-p.ensures.shows in
    let drawings = rw c.requires.scene at c.in_ok-p.ensures.drawings in
    let many = c.sections_of_a_plan_are_those_of_its_rows.ensures.rows c.args.good.now 1 (c.args.rows + 1 - 1) c.in_ok-p.p c.in_ok-p.ensures.shows in
    let all : 1 + rows_in c.in_ok-p.p ≡ c.args.rows + 1 = omega (arith, many) in
    let shown = making_shown law c.args.seed c.args.rows c.in_ok-p.p shows drawings (rw c.requires.scene at c.in_ok-p.ensures.none) in
    let run = c.in_ok-closed.ensures.did c.args.rows all c.requires.least (made_files c.args.seed) c.requires.files
    (summing c.args.seed c.args.rows (plan_in scene 1 c.args.rows)) in
    let did = rw (c.requires.scene, c.in_ok-base.ensures, ← shown) at run in
    let whole = c.generated_scenes_are_rendered_whole.ensures c.args.seed c.args.rows c.requires.least c.requires.most in
    let told = c.sum.ensures ∙ made_total c.args.seed c.args.rows whole _ _ did c.requires.sum in
    let total : c.unwrap_or-total.result ≡ made_sum c.args.seed c.args.rows = rw told at c.unwrap_or-total.ensures in
    rw (p.1, p.2)
    (stopped_then _ _ _ _ _ _ did c.in_ok-closed.ensures.keeps.left
    (making_noted law c.args.seed c.args.rows c.in_ok-p.p shows drawings _ (g.O.Outside.view c.render_rows.new.outside).seen (g.O.Outside.view c.note_made.new.outside).seen
    (Err c.in_err-note_made.field-0.0) total c.in_err-note_made.ensures.wrote))

pub returns-in_err-note_made-clause-leaves : goal.returns-in_err-note_made-clause-leaves
returns-in_err-note_made-clause-leaves g c =
    let p = err_from_is_err_and c.from_residual-in_err-note_made.result c.from_residual-in_err-note_made.ensures.1 in
    rw (p.1, p.2) (leaves_then _ _ _ _ c.in_ok-closed.ensures.keeps.left c.in_err-note_made.ensures.leaves)

pub returns-in_err-note_made-clause-quiet : goal.returns-in_err-note_made-clause-quiet
returns-in_err-note_made-clause-quiet g c =
    let p = err_from_is_err_and c.from_residual-in_err-note_made.result c.from_residual-in_err-note_made.ensures.1 in
    rw (p.1, p.2)
    (quiet_then (g.O.Outside.view c.args.outside.now).seen (g.O.Outside.view c.render_rows.new.outside).seen
    (g.O.Outside.view c.note_made.new.outside).seen _ c.in_ok-closed.ensures.keeps.notes
    (line_quiet (Unit {0}) _ (g.O.Outside.view c.render_rows.new.outside).seen (g.O.Outside.view c.note_made.new.outside).seen
    (Err c.in_err-note_made.field-0.0) c.in_err-note_made.ensures.wrote))

pub returns-clause-did : goal.returns-clause-did
returns-clause-did g c = λ files e.
    let scene = scene_from c.args.seed c.args.rows in
    let law = c.a_shown_plan_is_the_plan.ensures in
    let shows = rw c.requires.scene at c.in_ok-p.ensures.shows in
    let drawings = rw c.requires.scene at c.in_ok-p.ensures.drawings in
    let many = c.sections_of_a_plan_are_those_of_its_rows.ensures.rows c.args.good.now 1 (c.args.rows + 1 - 1) c.in_ok-p.p c.in_ok-p.ensures.shows in
    let all : 1 + rows_in c.in_ok-p.p ≡ c.args.rows + 1 = omega (arith, many) in
    let shown = making_shown law c.args.seed c.args.rows c.in_ok-p.p shows drawings (rw c.requires.scene at c.in_ok-p.ensures.none) in
    let run = c.in_ok-closed.ensures.did c.args.rows all c.requires.least (made_files c.args.seed) c.requires.files
    (summing c.args.seed c.args.rows (plan_in scene 1 c.args.rows)) in
    let did = rw (c.requires.scene, c.in_ok-base.ensures, ← shown) at run in
    let whole = c.generated_scenes_are_rendered_whole.ensures c.args.seed c.args.rows c.requires.least c.requires.most in
    let told = c.sum.ensures ∙ made_total c.args.seed c.args.rows whole _ _ did c.requires.sum in
    let total : c.unwrap_or-total.result ≡ made_sum c.args.seed c.args.rows = rw told at c.unwrap_or-total.ensures in
    did_then did
    (making_noted law c.args.seed c.args.rows c.in_ok-p.p shows drawings _ (g.O.Outside.view c.render_rows.new.outside).seen (g.O.Outside.view c.note_made.new.outside).seen
    (Ok tt) total c.in_ok-note_made.ensures.wrote)

pub returns-clause-once : goal.returns-clause-once
returns-clause-once g c =
    computed_rows c.a_shown_plan_is_the_plan.ensures (scene_from c.args.seed c.args.rows) 1 c.args.rows c.in_ok-p.p _ _
    (rw c.requires.scene at c.in_ok-p.ensures.shows) (rw c.requires.scene at c.in_ok-p.ensures.drawings) c.in_ok-closed.ensures.each c.in_ok-closed.ensures.closed
