use Rattle.std.specs.Prelude.{◌≡◌, ℕ, ◌*◌, ◌+◌, ℤ, pos, ◌-ℤ◌}
use Rattle.xs_pixel.specs.Images.{Image, blurred}
use Rattle.xs_pixel.specs.Points.{point}
use Rattle.xs_rect.specs.Area.{Area, Holds, area}
use Rattle.xs_raster.specs.Bitmap.{Bitmap, pixel_of}

-- the image of a raster: at each point of its area, the pixel there
abbrev pub image_of : Bitmap → Image
image_of r p = pixel_of r p.x p.y

-- the points of the square of side 2 n + 1 round a point
abbrev pub square_round : ℤ → ℤ → ℕ → Area
square_round x y n = area (x -ℤ pos n) (y -ℤ pos n) (2 * n + 1) (2 * n + 1)

-- at each point of its area the result has the mean over the square round that point
pub record Blurs (n : ℕ) (input result : Bitmap) : Type 0 where
  pub each : (x y : ℤ) → Holds result.area x y → pixel_of result x y ≡ blurred n (image_of input) (point x y)
  pub same_kind : result.has_bytes ≡ input.has_bytes
