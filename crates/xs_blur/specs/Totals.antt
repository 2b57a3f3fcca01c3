use Rattle.std.specs.Prelude.{◌≡◌, ℕ, zero, suc, ◌+◌, ◌*◌, ◌/◌, ◌<◌, ◌≤◌, pos, ◌-ℤ◌, List, slice_index}
use Rattle.xs_pixel.specs.Channels.{Channels}
use Rattle.xs_pixel.specs.Points.{Point, point, plus}
use Rattle.xs_pixel.specs.Images.{Image}
use Rattle.xs_blur.specs.declared.sums.ChannelSums.{ChannelSums}

-- the sum of f at the first k numbers, from 0
unfoldable pub total : (ℕ → ℕ) → ℕ → ℕ
total f zero = 0
total f (suc k) = total f k + f k

-- the sum of the bytes at a place of k rows, from row y on, of which each has so many bytes
unfoldable pub column : List ℕ → ℕ → ℕ → ℕ → ℕ → ℕ
column bytes long y k place = total (λ j. slice_index bytes (long * (y + j) + place)) k

-- the sum of each place of these rows
abbrev pub AreColumns : List ℕ → List ℕ → ℕ → ℕ → ℕ → Type 0
AreColumns sums bytes long y k = (c : ℕ) → c < long → slice_index sums c ≡ column bytes long y k c

-- the sum of a channel over k columns, from column x on, of which each has four channels
unfoldable pub window : List ℕ → ℕ → ℕ → ℕ → ℕ
window columns x k channel = total (λ i. slice_index columns (4 * (x + i) + channel)) k

-- the sums of the four channels of these columns
pub record AreSums (columns : List ℕ) (x k : ℕ) (s : ChannelSums) : Type 0 where
  pub red : s.r ≡ window columns x k 0
  pub green : s.g ≡ window columns x k 1
  pub blue : s.b ≡ window columns x k 2
  pub matte : s.m ≡ window columns x k 3

-- one sum has a column more than another
pub record Gains (columns : List ℕ) (at : ℕ) (old new : ChannelSums) : Type 0 where
  pub red : new.r ≡ old.r + slice_index columns (4 * at)
  pub green : new.g ≡ old.g + slice_index columns (4 * at + 1)
  pub blue : new.b ≡ old.b + slice_index columns (4 * at + 2)
  pub matte : new.m ≡ old.m + slice_index columns (4 * at + 3)

-- no channel of a column exceeds its sum
pub record Has (columns : List ℕ) (at : ℕ) (s : ChannelSums) : Type 0 where
  pub red : slice_index columns (4 * at) ≤ s.r
  pub green : slice_index columns (4 * at + 1) ≤ s.g
  pub blue : slice_index columns (4 * at + 2) ≤ s.b
  pub matte : slice_index columns (4 * at + 3) ≤ s.m

-- no sum is greater
pub record IsAtMost (most : ℕ) (s : ChannelSums) : Type 0 where
  pub red : s.r ≤ most
  pub green : s.g ≤ most
  pub blue : s.b ≤ most
  pub matte : s.m ≤ most

-- the first pixels of a line are the means of so many columns from theirs on
abbrev pub AreMeans : List ℕ → ℕ → List ℕ → ℕ → Type 0
AreMeans columns side line count =
    (x channel : ℕ) → channel < 4 → x < count
    → slice_index line (4 * x + channel) ≡ window columns x side channel / (side * side)

-- the place i from the left and j from below in a square of side 2 n + 1 round a point
abbrev pub in_square : Point → ℕ → ℕ → ℕ → Point
in_square p n j i = plus p (point (pos i -ℤ pos n) (pos j -ℤ pos n))

-- the sum of a channel over the first rows of such a square, and the first pixels of the next row
unfoldable pub square_part : (Channels → ℕ) → Image → Point → ℕ → ℕ → ℕ → ℕ
square_part channel image p n rows more =
    total (λ j. total (λ i. channel (image (in_square p n j i))) (2 * n + 1)) rows
    + total (λ i. channel (image (in_square p n rows i))) more

-- the sums of the four channels there
pub record AreParts (image : Image) (p : Point) (n rows more : ℕ) (s : ChannelSums) : Type 0 where
  pub red : s.r ≡ square_part (λ c. c.r) image p n rows more
  pub green : s.g ≡ square_part (λ c. c.g) image p n rows more
  pub blue : s.b ≡ square_part (λ c. c.b) image p n rows more
  pub matte : s.m ≡ square_part (λ c. c.m) image p n rows more
