use Rattle.std.specs.Prelude.{◌≡◌, ℤ, ◌-ℤ◌, unsigned_abs, List, length, slice_index_or}
use Rattle.xs_pixel.specs.Channels.{Channels, clear}
use Rattle.xs_rect.specs.Area.{area, Holds, Lies}
use Rattle.xs_raster.specs.Bitmap.{Bitmap, pixel_of}

-- the points from (x, y) to the right have the pixels of the row, and all others are as they were
pub record SetsRow (old new : Bitmap) (x y : ℤ) (row : List Channels) : Type 0 where
  pub same_area : new.area ≡ old.area
  pub same_size : length new.pixels ≡ length old.pixels
  pub same_kind : new.has_bytes ≡ old.has_bytes
  pub set : (p : ℤ) → Lies x (length row) p → pixel_of new p y ≡ slice_index_or row (unsigned_abs (p -ℤ x)) clear
  pub kept : (p q : ℤ) → Holds old.area p q → ¬ Holds (area x y (length row) 1) p q → pixel_of new p q ≡ pixel_of old p q

-- the points that the tile holds have its pixels, and all others are as they were
pub record Pastes (old new tile : Bitmap) : Type 0 where
  pub same_area : new.area ≡ old.area
  pub same_size : length new.pixels ≡ length old.pixels
  pub same_kind : new.has_bytes ≡ old.has_bytes
  pub pasted : (p q : ℤ) → Holds old.area p q → Holds tile.area p q → pixel_of new p q ≡ pixel_of tile p q
  pub kept : (p q : ℤ) → Holds old.area p q → ¬ Holds tile.area p q → pixel_of new p q ≡ pixel_of old p q
