use Rattle.std.proofs.Common.{ℕ, List, ◌++◌, ap, ◌∙◌}
use Rattle.xs_scene.specs.Records.{SceneRecord, CameraRecord}
use Rattle.xs_rawfile.specs.Frame.{frame_header_of}
use Rattle.xs_direct.specs.Pictures.{pictures_in}
use Rattle.xs_direct.proofs.FrameLemmas.{frame-file}
use Rattle.xs_direct.proofs.frame.frame_direct.Goals as goal

pub returns-clause-value : goal.returns-clause-value
returns-clause-value g c =
    let scene = c.behind-s.view_is ∙ c.scene.ensures.value in
    let camera = c.camera.view_is ∙ ap (λ (s : SceneRecord). s.camera) scene in
    frame-file c.args.s.now (pictures_in c.args.drawings.now) c.args.row c.camera.inside.w c.camera.inside.h c.push_frame_header.new.bytes.items
    c.push_lines.new.bytes.items
    (c.in_ok-push_frame_header.ensures ∙ ap (λ (xs : List ℕ). xs ++ frame_header_of c.camera.inside.w c.camera.inside.h) c.in_ok-bytes.ensures.items)
    c.in_ok-push_lines.ensures (ap (λ (c : CameraRecord). c.w) camera) (ap (λ (c : CameraRecord). c.h) camera)

pub returns-clause-told : goal.returns-clause-told
returns-clause-told g c = λ pictures tells pixels are.
    returns-clause-value g c ∙ c.held_drawings_make_the_frame.ensures pictures tells pixels are
