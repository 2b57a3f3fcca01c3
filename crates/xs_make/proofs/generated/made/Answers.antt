use Rattle.std.proofs.Common.{◌≡◌, sym, subst, None, rules}
use Rattle.xs_check.specs.Passes.{first_fault}
use Rattle.xs_scene.specs.Records.{SceneRecord}
use Rattle.xs_make.specs.Scenes.{scene_from}
use Rattle.xs_make.proofs.Plain.{generated_is_plain}
use Rattle.xs_make.proofs.generated.made.Goals as goal

pub scene-requires : goal.scene-requires
scene-requires c =
    rw (c.in_ok-palette.ensures.palette, c.in_ok-sheet.ensures)
    (generated_is_plain c.new-draws.result c.files.new.draws c.args.rows)

pub checked-requires : goal.checked-requires
checked-requires c =
    let is : c.in_ok-scene.scene ≡ scene_from c.args.seed c.args.rows = search rules in
    subst (λ (s : SceneRecord). first_fault s ≡ None) (sym is) (c.generated_scenes_have_no_fault.ensures c.args.seed c.args.rows)
