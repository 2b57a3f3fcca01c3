use Rattle.std.proofs.lemmas.Result.{err_from_is_err_and}
use Rattle.xs_top.proofs.Parts.{did_nothing}
use Rattle.xs_top.proofs.Scenes.{scene_read, text_refused, scene_refused, text_inside, scene_inside}
use Rattle.xs_top.proofs.scene.read_scene.Goals as goal

pub returns-in_err-scene-clause-did : goal.returns-in_err-scene-clause-did
returns-in_err-scene-clause-did c = λ next seen.
    let p = err_from_is_err_and c.from_residual.result c.from_residual.ensures.1 in
    rw (p.1, p.2) (text_refused _ next seen _ c.in_err-scene.ensures)

pub returns-in_err-scene-clause-inside : goal.returns-in_err-scene-clause-inside
returns-in_err-scene-clause-inside c =
    let p = err_from_is_err_and c.from_residual.result c.from_residual.ensures.1 in
    rw (p.1, p.2) (text_inside c.text_faults.ensures c.args.bytes.now _ c.in_err-scene.ensures)

pub returns-in_err-good-clause-did : goal.returns-in_err-good-clause-did
returns-in_err-good-clause-did c = λ next seen.
    let p = err_from_is_err_and c.from_residual-in_err-good.result c.from_residual-in_err-good.ensures.1 in
    rw (p.1, p.2) (scene_refused _ next seen _ _ c.in_ok-scene.ensures c.in_err-good.ensures.checked)

pub returns-in_err-good-clause-inside : goal.returns-in_err-good-clause-inside
returns-in_err-good-clause-inside c =
    let p = err_from_is_err_and c.from_residual-in_err-good.result c.from_residual-in_err-good.ensures.1 in
    rw (p.1, p.2) (scene_inside c.checking_finds_its_codes.ensures _ _ c.in_err-good.ensures.checked)

pub returns-clause-did : goal.returns-clause-did
returns-clause-did c = λ next seen.
    rw (c.in_ok-good.ensures.same) (rw (scene_read _ next _ c.in_ok-scene.ensures c.in_ok-good.ensures.checked) (did_nothing _ _))

pub returns-clause-said : goal.returns-clause-said
returns-clause-said c = rw c.in_ok-good.ensures.same c.in_ok-scene.ensures

pub returns-clause-faultless : goal.returns-clause-faultless
returns-clause-faultless c = rw c.in_ok-good.ensures.same c.in_ok-good.ensures.checked
