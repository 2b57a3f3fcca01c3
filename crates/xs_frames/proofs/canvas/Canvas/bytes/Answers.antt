use Rattle.std.proofs.Common.{◌≡◌, ◌*◌, length, ap, subst, ◌∙◌}
use Rattle.xs_raster.specs.Bitmap.{Bitmap}
use Rattle.xs_rawfile.specs.Frame.{frame_file_of}
use Rattle.xs_frames.proofs.Bytes.{is_file, has_all_pixels}
use Rattle.xs_frames.proofs.canvas.Canvas.bytes.Goals as goal

pub returns-clause-file : goal.returns-clause-file
returns-clause-file c =
    c.as_slice.ensures.value ∙ is_file c.self.inside.rect c.self.inside.bytes.items c.self.invariant ∙ ap frame_file_of c.self.view_is

pub returns-clause-whole : goal.returns-clause-whole
returns-clause-whole c =
    subst (λ (b : Bitmap). length b.pixels ≡ b.area.w * b.area.h) c.self.view_is
    (has_all_pixels c.self.inside.rect c.self.inside.bytes.items c.self.invariant)
