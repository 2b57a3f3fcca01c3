use Rattle.std.proofs.Common.{◌≡◌, ℕ, ◌*◌, ◌/◌, List, length, ap, ◌∙◌, arith}
use Rattle.std.proofs.lemmas.List.{take_at}
use Rattle.std.proofs.lemmas.Simd.{length-replicate}
use Rattle.xs_pixel.specs.PixelRows.{pixels}
use Rattle.xs_raster.specs.Bitmap.{bitmap}
use Rattle.xs_bench.proofs.Blank.{shows_one}
use Rattle.xs_bench.proofs.card.card.Goals as goal

pub returns : goal.returns
returns c =
    let stored = take_at _ _ _ (c.fill_row.auto.to ∙ c.deref_mut.ensures.len) in
    let long : length c.deref_mut.result.now ≡ 4 * (c.args.rect.w * c.args.rect.h) =
    ap length (c.deref_mut.ensures.value ∙ c.in_ok-bytes.ensures) ∙ length-replicate _ 0 ∙ c.byte_count.ensures in
    shows_one c.args.rect c.args.pixel c.from_bytes.result (length c.deref_mut.result.now / 4)
    (c.from_bytes.ensures ∙ ap (λ (bytes : List ℕ). bitmap c.args.rect (pixels bytes)) stored ∙ ap (bitmap c.args.rect) c.fill_row.ensures.value)
    (omega arith)
