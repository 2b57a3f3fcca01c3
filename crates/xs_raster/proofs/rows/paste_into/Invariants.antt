use Rattle.std.specs.Simd.Lanes.{Each1}
use Rattle.xs_pixel.specs.Channels.{IsPixel}
use Rattle.xs_pixel.specs.PixelRows.{pixels}
use Rattle.xs_raster.specs.Bitmap.{bitmap}
use Rattle.xs_raster.proofs.Pasting.{PastedIn, rows_below}
use Rattle.xs_raster.proofs.rows.paste_into.Given as goal

abbrev pub invariant-loop-i : goal.invariant-loop-i
invariant-loop-i l = record {
  points : PastedIn (rows_below l.common l.i) (bitmap l.rect (pixels l.initial.bytes)) (bitmap l.rect (pixels l.bytes)) l.from;
  premultiplied : Each1 IsPixel (pixels l.initial.bytes) → Each1 IsPixel (pixels l.bytes);
}
