use Rattle.std.specs.Prelude.{ℕ, ◌+◌, ◌*◌, ◌/◌, ◌≤◌, pos, ◌-ℤ◌, List, map, flat_map, sum_by}
use Rattle.std.specs.List.{range_with_len}
use Rattle.xs_pixel.specs.Channels.{Channels}
use Rattle.xs_pixel.specs.Points.{Point, point, plus}
use Rattle.xs_pixel.specs.Images.{Image}

-- the sum of each channel of some pixels: no colour exceeds the matte, and the matte is at most `most`
pub record AreSums (most : ℕ) (c : Channels) : Type 0 where
  pub red : c.r ≤ c.m
  pub green : c.g ≤ c.m
  pub blue : c.b ≤ c.m
  pub top : c.m ≤ most

abbrev pub added : Channels → Channels → Channels
added c d = record { r = c.r + d.r; g = c.g + d.g; b = c.b + d.b; m = c.m + d.m }

abbrev pub divided : Channels → ℕ → Channels
divided c n = record { r = c.r / n; g = c.g / n; b = c.b / n; m = c.m / n }

-- the sums of the channels of an image at some offsets from a point
unfoldable pub sums_at : Image → Point → List Point → Channels
sums_at image p offsets =
    record {
      r = sum_by (λ q. (image (plus p q)).r) offsets;
      g = sum_by (λ q. (image (plus p q)).g) offsets;
      b = sum_by (λ q. (image (plus p q)).b) offsets;
      m = sum_by (λ q. (image (plus p q)).m) offsets;
    }

-- the first offsets of a line of a square of side 2 n + 1, and those of its first lines
abbrev pub line_of : (n j count : ℕ) → List Point
line_of n j count = map (λ i. point (pos i -ℤ pos n) (pos j -ℤ pos n)) (range_with_len 0 count)

unfoldable pub lines_of : (n count : ℕ) → List Point
lines_of n count = flat_map (λ j. line_of n j (2 * n + 1)) (range_with_len 0 count)
