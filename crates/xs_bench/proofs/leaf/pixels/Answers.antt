use Rattle.std.proofs.Common.{ℕ, List, sym, ap, ◌∙◌, subst, arith}
use Rattle.std.specs.Simd.Lanes.{Each1}
use Rattle.xs_pixel.specs.Channels.{IsPixel}
use Rattle.std.proofs.lemmas.List.{take_at}
use Rattle.xs_pixel.specs.PixelRows.{pixels}
use Rattle.xs_pixel.specs.Points.{point}
use Rattle.xs_raster.specs.Bitmap.{bitmap}
use Rattle.xs_bench.proofs.Pictures.{pixels_apart, pixels_shown, pixels_valid}
use Rattle.xs_bench.proofs.leaf.pixels.Goals as goal

pub returns-in_default : goal.returns-in_default
returns-in_default c =
    pixels_apart c.args.rect c.args.g.now (point c.args.to.x c.args.to.y) c.blank.result c.in_default.ensures.none c.blank.ensures

pub from_bytes-requires-clause-premultiplied : goal.from_bytes-requires-clause-premultiplied
from_bytes-requires-clause-premultiplied c =
    let stored = take_at _ _ _ (c.copy_box.auto.bytes ∙ c.deref_mut.ensures.len) in
    let over = c.in-Some.ensures.some in
    let inside = over.across.inside over.wide in
    let wide = over.wide in
    subst (λ (l : List ℕ). Each1 IsPixel (pixels l)) (sym stored)
    (pixels_valid c.args.rect c.args.g.now (point c.args.to.x c.args.to.y) c.copy_box.new.bytes
    (c.copy_box.ensures (point c.args.to.x c.args.to.y) over) c.bytes.ensures.raw c.requires.colour (omega arith))

pub returns : goal.returns
returns c =
    let stored = take_at _ _ _ (c.copy_box.auto.bytes ∙ c.deref_mut.ensures.len) in
    pixels_shown c.args.rect c.args.g.now (point c.args.to.x c.args.to.y) c.copy_box.new.bytes c.from_bytes.result
    (c.copy_box.ensures (point c.args.to.x c.args.to.y) c.in-Some.ensures.some) c.bytes.ensures.raw
    (c.from_bytes.ensures ∙ ap (λ (bytes : List ℕ). bitmap c.args.rect (pixels bytes)) stored)
