use Rattle.std.specs.Prelude.{◌≡◌, ℕ, ◌*◌, ◌<◌, ◌≤◌, ℤ, Bool, true, false, List, [], ◌∷◌, length, replicate, slice_index_or}
use Rattle.std.specs.Simd.Lanes.{Each1, chunk}
use Rattle.xs_pixel.specs.Channels.{Channels, IsPixel, clear}
use Rattle.xs_pixel.specs.Picture.{place_in_box}
use Rattle.xs_pixel.specs.PixelRows.{pixels as pixels_in}
use Rattle.xs_rect.specs.Area.{Area}
use Rattle.xs_raster.specs.declared.raster.TheConstants.{LONGEST_BLANK_SIDE}

-- an area and its pixels, in rows from the lowest up and each from left to right, and whether it has
-- memory for the bytes of its pixels
pub record Bitmap : Type 0 where
  pub area : Area
  pub pixels : List Channels
  pub has_bytes : Bool

-- these pixels, with bytes
abbrev pub bitmap : Area → List Channels → Bitmap
bitmap area pixels = record { area = area; pixels = pixels; has_bytes = true }

-- clear pixels, as many as the area has
abbrev pub clear_pixels : Area → List Channels
clear_pixels area = replicate (area.w * area.h) clear

-- clear pixels without bytes
abbrev pub blank : Area → Bitmap
blank area = record { area = area; pixels = clear_pixels area; has_bytes = false }

-- what an area and some bytes hold: where there are none, all is clear
abbrev pub pixels_of : Area → List ℕ → List Channels
pixels_of area [] = clear_pixels area
pixels_of area (b ∷ rest) = pixels_in (b ∷ rest)

abbrev pub has_some : List ℕ → Bool
has_some [] = false
has_some (b ∷ rest) = true

abbrev pub bitmap_of : Area → List ℕ → Bitmap
bitmap_of area bytes =
    record { area = area; pixels = pixels_of area bytes; has_bytes = has_some bytes }

-- the bytes hold the pixels of the area, or there are none and the area is small
pub record IsRaster (area : Area) (bytes : List ℕ) : Type 0 where
  pub whole : 0 < length bytes → length bytes ≡ 4 * (area.w * area.h)
  pub premultiplied : Each1 IsPixel (pixels_in bytes)
  pub small : length bytes ≡ 0 → (area.w ≤ LONGEST_BLANK_SIDE) × (area.h ≤ LONGEST_BLANK_SIDE)

-- the four bytes of each pixel
abbrev pub bytes_of : List Channels → List ℕ
bytes_of [] = []
bytes_of (p ∷ ps) = p.r ∷ p.g ∷ p.b ∷ p.m ∷ bytes_of ps

-- how many pixels of an area come before the one at a point
abbrev pub place_of : Area → ℤ → ℤ → ℕ
place_of a x y = place_in_box a.x a.y a.w x y

-- the pixel at a point of the area
abbrev pub pixel_of : Bitmap → ℤ → ℤ → Channels
pixel_of r x y = slice_index_or r.pixels (place_of r.area x y) clear

-- the row of pixels with this y
abbrev pub row_of : Bitmap → ℤ → List Channels
row_of r y = chunk (place_of r.area r.area.x y) r.area.w r.pixels

-- the pixels at the places of another area's row with this y
abbrev pub part_of : Bitmap → Area → ℤ → List Channels
part_of r c y = chunk (place_of r.area c.x y) c.w r.pixels
