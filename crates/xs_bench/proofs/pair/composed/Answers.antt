use Rattle.std.proofs.Common.{ℕ, ◌*◌, List, refl, ap, ap₂, ◌∙◌}
use Rattle.std.specs.Simd.Lanes.{zip2}
use Rattle.std.proofs.lemmas.List.{take_at}
use Rattle.xs_pixel.specs.Channels.{Channels}
use Rattle.xs_pixel.specs.Operations.{apply_of}
use Rattle.xs_pixel.specs.PixelRows.{pixels}
use Rattle.xs_rect.specs.Area.{Area}
use Rattle.xs_raster.specs.Bitmap.{bitmap}
use Rattle.xs_bench.proofs.Blank.{shows_zip}
use Rattle.xs_bench.proofs.pair.composed.Goals as goal

pub returns : goal.returns
returns c =
    let first = c.args.first.now in
    let second = c.args.second.now in
    let on = first.area in
    let stored = take_at _ _ _ (c.op_row.auto.to ∙ c.deref_mut.ensures.len) in
    let rect = c.rect-rect.ensures.area in
    let one = c.rect-rect.ensures.size ∙ ap (λ (a : Area). a.w * a.h) rect in
    let two = c.rect.ensures.size ∙ ap (λ (a : Area). a.w * a.h) (c.rect.ensures.area ∙ c.requires.same) in
    shows_zip on (apply_of c.args.op) first second c.from_bytes.result
    (c.from_bytes.ensures
    ∙ ap₂ (λ (a : Area) (bytes : List ℕ). bitmap a (pixels bytes)) rect stored
    ∙ ap (bitmap on) (c.op_row.ensures.value ∙ ap₂ (λ (u d : List Channels). zip2 (apply_of c.args.op) u d) c.bytes.ensures.pixels c.bytes-2.ensures.pixels))
    refl c.requires.same one two
