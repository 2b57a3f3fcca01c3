use Rattle.std.specs.Prelude.{ℕ, ◌+◌, ◌*◌, ◌/◌, sum_by}
use Rattle.xs_pixel.specs.Channels.{Channels}
use Rattle.xs_pixel.specs.Points.{Point, plus, square}

-- a picture without an edge: a pixel at each point
abbrev pub Image : Type 0
Image = Point → Channels

-- the mean of a square of side 2 n + 1 round a point, each channel rounded down
abbrev pub mean_of : (Channels → ℕ) → ℕ → Image → Point → ℕ
mean_of channel n image p =
    sum_by (λ q. channel (image (plus p q))) (square n) / ((2 * n + 1) * (2 * n + 1))

unfoldable pub blurred : ℕ → Image → Image
blurred n image p =
    record {
      r = mean_of (λ c. c.r) n image p;
      g = mean_of (λ c. c.g) n image p;
      b = mean_of (λ c. c.b) n image p;
      m = mean_of (λ c. c.m) n image p;
    }
