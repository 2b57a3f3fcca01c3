use Rattle.std.proofs.Common.{◌≡◌, ℕ, ◌-◌, ◌/◌, length, min, subst, arith}
use Rattle.std.proofs.Math.Path.{fun_ext}
use Rattle.std.proofs.lemmas.Simd.{Each1-get_or}
use Rattle.xs_pixel.specs.Channels.{Channels, clear, IsPixel}
use Rattle.xs_pixel.specs.PixelRows.{pixels}
use Rattle.xs_cm32.specs.Word.{ink_of, paint_of, colour_under}
use Rattle.xs_palette.specs.Styles.{style_of}
use Rattle.xs_lanes.specs.WordColours.{looked_up}
use Rattle.xs_lanes.proofs.Lengths.{Each1-colours}
use Rattle.xs_lanes.proofs.cm32.cm32_row.Goals as goal

pub rest-requires-clause-so_far : goal.rest-requires-clause-so_far
rest-requires-clause-so_far c =
    let table = c.table-table.result.now in
    let last : length table / 4 - 1 ≡ length c.args.p.now - 1 = omega (arith, c.table-table.ensures.whole) in
    let same : looked_up (pixels table) (length table / 4 - 1) ≡ style_of c.args.p.now =
    fun_ext (λ id. rw (last, c.table-table.ensures.bytes) (c.table-table.ensures.look_up id))
    in
    rw same at c.blocks-from.ensures

pub returns-clause-valid : goal.returns-clause-valid
returns-clause-valid c =
    let p = c.args.p.now in
    let valid : (id : ℕ) → IsPixel (style_of p id) =
    λ id. subst (λ (q : Channels). IsPixel q) (c.table-table.ensures.look_up id)
    (Each1-get_or IsPixel p (min id (length p - 1)) clear (omega (arith, c.table-table.ensures.few)) c.table-table.ensures.valid)
    in
    rw c.rest.ensures
    (Each1-colours IsPixel (colour_under (style_of p)) (λ w. c.words_have_pixels.ensures w _ _ (valid (ink_of w)) (valid (paint_of w))) _)
