use Rattle.std.proofs.Common.{ℕ, ◌*◌, List, ap, ◌∙◌, refl}
use Rattle.xs_pixel.specs.PixelRows.{pixels}
use Rattle.xs_raster.specs.Bitmap.{bitmap}
use Rattle.xs_raster.proofs.Bytes.{pixels-replicate}
use Rattle.xs_raster.proofs.Blank.{premultiplied-replicate}
use Rattle.xs_raster.proofs.raster.Raster.clear.Goals as goal

pub from_bytes-requires-clause-premultiplied : goal.from_bytes-requires-clause-premultiplied
from_bytes-requires-clause-premultiplied c =
    rw (rw (c.w.ensures.value, c.h.ensures.value) at c.in_ok-bytes.ensures) (premultiplied-replicate (c.args.rect.w * c.args.rect.h))

pub returns : goal.returns
returns c =
    c.from_bytes.ensures
    ∙ ap (λ (bytes : List ℕ). bitmap c.args.rect (pixels bytes)) (rw (c.w.ensures.value, c.h.ensures.value) at c.in_ok-bytes.ensures)
    ∙ ap (bitmap c.args.rect) (pixels-replicate (4 * (c.args.rect.w * c.args.rect.h)) (c.args.rect.w * c.args.rect.h) refl)
