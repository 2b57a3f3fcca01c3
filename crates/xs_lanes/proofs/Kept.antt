use Rattle.std.proofs.Common.{◌≡◌, ℕ, List, length, map}
use Rattle.xs_pixel.specs.Channels.{Channels}
use Rattle.xs_pixel.specs.PixelRows.{pixels}
use Rattle.xs_cm32.specs.WordRows.{words}
use Rattle.xs_lanes.specs.Done.{Done}

-- what the loop over blocks of words keeps: the colours so far, and those of the last block
pub record Kept (colour : ℕ → Channels) (row to : List ℕ) (at : ℕ) (seen made : List ℕ) : Type 0 where
  pub done : Done (map colour (words row)) to at
  pub long : length made ≡ 16
  pub known : pixels made ≡ map colour (words seen)
