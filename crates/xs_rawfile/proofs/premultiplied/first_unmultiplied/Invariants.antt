use Rattle.std.proofs.Common.{◌≡◌, ◌-◌, ◌*◌, ◌≤◌, length, drop}
use Rattle.std.specs.List.{position_from}
use Rattle.xs_pixel.specs.PixelRows.{pixels}
use Rattle.xs_rawfile.specs.Pixels.{exceeds}
use Rattle.xs_rawfile.proofs.premultiplied.first_unmultiplied.Given as goal

abbrev pub invariant-loop-pixel : goal.invariant-loop-pixel
invariant-loop-pixel l =
    (4 * l.pixel ≤ length l.bytes) × (position_from exceeds 0 (pixels l.bytes) ≡ position_from exceeds l.pixel (pixels (drop (4 * l.pixel) l.bytes)))

abbrev pub decreases-loop-pixel : goal.decreases-loop-pixel
decreases-loop-pixel l = length l.bytes - 4 * l.pixel
