-- What a raster shows
use Rattle.std.specs.Prelude.{◌≡◌, ℕ, true, ℤ, pos, ◌+ℤ◌}
use Rattle.xs_pixel.specs.Images.{Image}
use Rattle.xs_pixel.specs.Points.{point}
use Rattle.xs_rect.specs.Area.{Area, area, Holds, Lies}
use Rattle.xs_raster.specs.Bitmap.{Bitmap, pixel_of}

-- a raster stands on an area, and each of its pixels is that of an image at the same point
pub record Shows (on : Area) (image : Image) (r : Bitmap) : Type 0 where
  pub area_is : r.area ≡ on
  pub pixels_are : (x y : ℤ) → Holds on x y → pixel_of r x y ≡ image (point x y)

-- a raster with bytes stands on an area, and shows an image in its lowest rows and in the first pixels of the
-- next row
pub record ShowsPart (on : Area) (image : Image) (rows more : ℕ) (r : Bitmap) : Type 0 where
  pub area_is : r.area ≡ on
  pub bytes : r.has_bytes ≡ true
  pub below : (x y : ℤ) → Holds (area on.x on.y on.w rows) x y → pixel_of r x y ≡ image (point x y)
  pub line : (x : ℤ) → Lies on.x more x → pixel_of r x (on.y +ℤ pos rows) ≡ image (point x (on.y +ℤ pos rows))
