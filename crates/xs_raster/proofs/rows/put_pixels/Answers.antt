use Rattle.std.proofs.Common.{◌≡◌, ◌+◌, ◌-◌, ◌*◌, ◌/◌, length, ap, sym, ◌∙◌, arith}
use Rattle.std.proofs.lemmas.Simd.{put_chunk_is}
use Rattle.xs_pixel.specs.PixelRows.{pixels}
use Rattle.xs_raster.proofs.rows.put_pixels.Goals as goal

pub returns : goal.returns
returns c =
    let from = 4 * c.args.at in
    let row = c.args.row.now in
    let size : from + length row - from ≡ length row = omega arith in
    rw (size, c.copy_from_slice.ensures.after)
    (ap pixels (sym (put_chunk_is from c.args.bytes.now row c.requires.room))
    ∙ c.rows_of_bytes_are_rows_of_pixels.ensures.written c.args.at (length row / 4) c.args.bytes.now row (omega arith))
