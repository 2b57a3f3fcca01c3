use Rattle.std.specs.Prelude.{◌≡◌, ℕ, ◌*◌, ◌≤◌, nat_le, ℤ, pos, neg_ℤ, ◌≤ℤ◌, int_le, Bool, ◌&&◌, List, length}
use Rattle.xs_base.specs.declared.limits.TheConstants.{LONGEST_DRAWING_SIDE, FARTHEST_CORNER}
use Rattle.std.specs.Simd.Lanes.{Each1}
use Rattle.xs_pixel.specs.Channels.{IsPixel}
use Rattle.xs_pixel.specs.PixelRows.{pixels}
use Rattle.xs_rawfile.specs.declared.drawing.RawKind.{RawKind}
use Rattle.xs_rawfile.specs.declared.drawing.RawKind.TheVariants.{Colour, Cm32}

-- a drawing as its file holds it: the corner of its box with the least x and y, the sides of the box,
-- and four bytes for each pixel, in rows from the lowest up and each from left to right
pub record Raw : Type 0 where
  pub x0 : ℤ
  pub y0 : ℤ
  pub w : ℕ
  pub h : ℕ
  pub kind : RawKind
  pub bytes : List ℕ

abbrev pub raw : ℤ → ℤ → ℕ → ℕ → RawKind → List ℕ → Raw
raw x0 y0 w h kind bytes = record { x0 = x0; y0 = y0; w = w; h = h; kind = kind; bytes = bytes }

-- a number of pixels that a side may have
abbrev pub IsSide : ℕ → Type 0
IsSide n = (1 ≤ n) × (n ≤ LONGEST_DRAWING_SIDE)

abbrev pub is_side : ℕ → Bool
is_side n = nat_le 1 n && nat_le n LONGEST_DRAWING_SIDE

-- a place that the corner may have along an axis
abbrev pub IsPlace : ℤ → Type 0
IsPlace z = (neg_ℤ (pos FARTHEST_CORNER) ≤ℤ z) × (z ≤ℤ pos FARTHEST_CORNER)

abbrev pub is_place : ℤ → Bool
is_place z = int_le (neg_ℤ (pos FARTHEST_CORNER)) z && int_le z (pos FARTHEST_CORNER)

-- the byte that stands for a kind
abbrev pub kind_byte : RawKind → ℕ
kind_byte Colour = 0
kind_byte Cm32 = 1

-- bytes that may stand for pixels: no colour exceeds its matte; every CM32 word will do
abbrev pub Fills : RawKind → List ℕ → Type 0
Fills Colour bytes = Each1 IsPixel (pixels bytes)
Fills Cm32 bytes = Unit {0}

-- a drawing that a file may hold
pub record IsRaw (d : Raw) : Type 0 where
  pub side_w : IsSide d.w
  pub side_h : IsSide d.h
  pub place_x : IsPlace d.x0
  pub place_y : IsPlace d.y0
  pub whole : length d.bytes ≡ 4 * (d.w * d.h)
  pub fills : Fills d.kind d.bytes
