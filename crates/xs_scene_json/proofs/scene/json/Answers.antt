use Rattle.std.proofs.Common.{◌≡◌, [], None, refl}
use Rattle.xs_fault.specs.declared.code.SceneCode.TheVariants as code
use Rattle.xs_scene_text.specs.SceneText.{json_of}
use Rattle.xs_scene_json.proofs.Texts.{json_of-some, json_of-none, fails_as_told}
use Rattle.xs_scene_json.proofs.scene.json.Goals as goal

pub returns-in-Ok : goal.returns-in-Ok
returns-in-Ok c = rw (json_of-some c.args.bytes.now _ c.in-Ok.ensures.ok.0 c.in-Ok.ensures.ok.1) refl

pub returns-in_default : goal.returns-in_default
returns-in_default c =
    let none : json_of c.args.bytes.now ≡ None =
    json_of-none c.args.bytes.now (c.in-Err.ensures.err (λ m. c.in_default.not-Memory (c.classify.ensures.memory.1 m))) in
    rw none (fails_as_told _ code.NotJson [] _ (rw c.root.ensures at c.fault_at-in_default.ensures))
