use Rattle.std.proofs.Common.{◌∙◌, refl, arith}
use Rattle.xs_rawfile.proofs.Blocks.{search_block}
use Rattle.xs_rawfile.proofs.premultiplied.passed_by_blocks.Goals as goal

pub loop-pixel-preserved : goal.loop-pixel-preserved
loop-pixel-preserved c =
    let bytes = c.args.bytes.now in
    let pixel = c.loop-pixel.pixel in
    let rows = c.rows_of_bytes_are_rows_of_pixels.ensures in
    let goes_on = search_block bytes pixel (λ k. rows.rest k bytes) (rows.part pixel 4 bytes) (c.if-not-passes.ensures refl) in
    (omega arith, c.loop-pixel.invariant.1 ∙ goes_on)
