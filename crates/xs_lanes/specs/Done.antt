use Rattle.std.specs.Prelude.{◌≡◌, ℕ, ◌*◌, ◌≤◌, List, length, take}
use Rattle.xs_pixel.specs.Channels.{Channels}
use Rattle.xs_pixel.specs.PixelRows.{pixels}

-- the first i bytes of a row are whole pixels, the first of those that are wanted
pub record Done (wanted : List Channels) (row : List ℕ) (i : ℕ) : Type 0 where
  pub count : ℕ
  pub whole : i ≡ 4 * count
  pub within : i ≤ length row
  pub so_far : pixels (take i row) ≡ take count wanted
