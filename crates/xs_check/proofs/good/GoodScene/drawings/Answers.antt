use Rattle.std.proofs.Common.{length, ap, ◌∙◌}
use Rattle.xs_scene.specs.Records.{SceneRecord}
use Rattle.xs_check.specs.Good.{files_of}
use Rattle.xs_check.proofs.Numbering.{kept_drawings}
use Rattle.xs_check.proofs.good.GoodScene.drawings.Goals as goal

pub returns : goal.returns
returns c =
    ap length c.as_slice.ensures.value ∙ kept_drawings c.self.inside.scene c.self.inside.index c.self.inside.numbers.firsts.items
    c.self.inside.numbers.owners.items c.self.invariant
    ∙ ap (λ (s : SceneRecord). length (files_of s.levels)) c.self.view_is
