use Rattle.std.specs.Prelude.{◌≡◌, ℕ, ◌+◌, ◌*◌, ◌≤◌, List, length, slice_index_or}
use Rattle.xs_base.specs.declared.limits.TheConstants.{MOST_STYLES}
use Rattle.std.specs.Simd.Lanes.{Each1}
use Rattle.xs_pixel.specs.Channels.{clear, IsPixel}
use Rattle.xs_pixel.specs.PixelRows.{pixels}

-- bytes of pixels, of which the first and the one at `past`, the last, are clear
pub record IsTable (past : ℕ) (bytes : List ℕ) : Type 0 where
  pub whole : length bytes ≡ 4 * (past + 1)
  pub few : past ≤ MOST_STYLES
  pub valid : Each1 IsPixel (pixels bytes)
  pub zero_clear : slice_index_or (pixels bytes) 0 clear ≡ clear
  pub past_clear : slice_index_or (pixels bytes) past clear ≡ clear
