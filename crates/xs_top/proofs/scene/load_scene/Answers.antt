use Rattle.std.proofs.Common.{List, ℕ}
use Rattle.std.proofs.lemmas.Result.{err_from_is_err_and}
use Rattle.xs_scene.specs.Records.{SceneRecord}
use Rattle.xs_scene_json.specs.SceneText.{scene_of}
use Rattle.xs_top.specs.Trace.{Outcome}
use Rattle.xs_top.specs.Outcome.{decoded}
use Rattle.xs_top.proofs.Parts.{stopped_then, did_then, keeps_nothing, keeps_then}
use Rattle.xs_top.proofs.Scenes.{scene_asked}
use Rattle.xs_top.proofs.scene.load_scene.Goals as goal

-- what follows the bytes of the scene
abbrev following : (SceneRecord → Outcome) → List ℕ → Outcome
following next bytes = decoded (scene_of bytes) next

pub returns-in_err-bytes-clause-did : goal.returns-in_err-bytes-clause-did
returns-in_err-bytes-clause-did g c = λ files e next.
    let p = err_from_is_err_and c.from_residual.result c.from_residual.ensures.1 in
    let asked = rw (c.refusal-absent.ensures, c.refusal-too_long.ensures, c.text.ensures.value) at c.in_err-bytes.ensures.did files e (following next) in
    rw (p.1, p.2, scene_asked files c.args.name.now next) asked

pub returns-in_err-good-clause-did : goal.returns-in_err-good-clause-did
returns-in_err-good-clause-did g c = λ files e next.
    let p = err_from_is_err_and c.from_residual-in_err-good.result c.from_residual-in_err-good.ensures.1 in
    let asked = rw (c.refusal-absent.ensures, c.refusal-too_long.ensures, c.text.ensures.value) at c.in_ok-bytes.ensures.did files e (following next) in
    let read = rw c.items.ensures at c.in_err-good.ensures.did next in
    rw (p.1, p.2, scene_asked files c.args.name.now next)
    (stopped_then _ _ _ _ _ _ asked c.in_ok-bytes.ensures.keeps.left (read _))

pub returns-in_err-good-clause-keeps : goal.returns-in_err-good-clause-keeps
returns-in_err-good-clause-keeps g c =
    let p = err_from_is_err_and c.from_residual-in_err-good.result c.from_residual-in_err-good.ensures.1 in
    rw (p.1, p.2) (keeps_then _ _ _ _ c.in_ok-bytes.ensures.keeps (keeps_nothing _ _ c.in_err-good.ensures.inside))

pub returns-clause-did : goal.returns-clause-did
returns-clause-did g c = λ files e next.
    let asked = rw (c.refusal-absent.ensures, c.refusal-too_long.ensures, c.text.ensures.value) at c.in_ok-bytes.ensures.did files e (following next) in
    let read = rw c.items.ensures at c.in_ok-good.ensures.did next in
    rw (scene_asked files c.args.name.now next) (did_then asked (read (g.O.Outside.view c.ask.new.self).seen))

pub returns-clause-says : goal.returns-clause-says
returns-clause-says g c = λ files e.
    let found = rw c.text.ensures.value at c.in_ok-bytes.ensures.bytes files e in
    record { bytes = c.in_ok-bytes.bytes; there = found.0; short = found.1; text = rw c.items.ensures at c.in_ok-good.ensures.said }
