-- The four bytes of each point, in the bytes of an area and in those of a drawing
use Rattle.std.specs.Prelude.{◌≡◌, ℕ, ◌+◌, ◌-◌, ◌*◌, ◌<◌, ◌≤◌, ℤ, pos, ◌+ℤ◌, ◌-ℤ◌, false, List, length, slice_index, map, if◌then◌else◌}
use Rattle.xs_pixel.specs.Channels.{Channels, clear}
use Rattle.xs_pixel.specs.Images.{Image}
use Rattle.xs_pixel.specs.Picture.{at_point, is_in_box, place_in_box}
use Rattle.xs_pixel.specs.PixelRows.{pixels}
use Rattle.xs_pixel.specs.Points.{Point}
use Rattle.xs_cm32.specs.Word.{colour_under}
use Rattle.xs_palette.specs.Styles.{style_of}
use Rattle.xs_rect.specs.Area.{Area, Holds, Lies}
use Rattle.xs_raster.specs.Bitmap.{place_of}
use Rattle.xs_rawfile.specs.Raw.{Raw}
use Rattle.xs_rawfile.specs.Held.{plain_picture, words_of}
use Rattle.xs_bench.specs.declared.shared.Shared.{Shared}
use Rattle.xs_bench.specs.declared.overlap.Overlap.{Overlap}

-- ---- places that two rows share

-- the places that the row of so many places from `outer` on shares with the one from `inner` on: `at` and
-- `from` are the numbers of the first of them in each
pub record AreShared (outer : ℤ) (outer_len : ℕ) (inner : ℤ) (inner_len : ℕ) (s : Shared) : Type 0 where
  pub shift : inner +ℤ pos s.from ≡ outer +ℤ pos s.at
  pub inside : 0 < s.len → (s.at + s.len ≤ outer_len) × (s.from + s.len ≤ inner_len)
  pub all : (z : ℤ) → Lies outer outer_len z → Lies inner inner_len z → Lies (outer +ℤ pos s.at) s.len z

-- ---- rows that are copied

-- a place of a row and a column that are shared, of so many rows
abbrev pub IsShared : Shared → Shared → ℕ → ℕ → ℕ → Type 0
IsShared across up rows r c =
    (up.at ≤ r) × (r < up.at + rows) × (across.at ≤ c) × (c < across.at + across.len)

-- rows of to_w numbers have the shared parts of rows of from_w numbers, and are else as they were
pub record Copied (from : List ℕ) (from_w to_w : ℕ) (across up : Shared) (rows : ℕ) (old new : List ℕ) : Type 0 where
  pub inside : (r c : ℕ) → IsShared across up rows r c
      → slice_index new (r * to_w + c) ≡ slice_index from ((up.from + (r - up.at)) * from_w + (across.from + (c - across.at)))
  pub outside : (r c : ℕ) → c < to_w → ¬ IsShared across up rows r c
      → slice_index new (r * to_w + c) ≡ slice_index old (r * to_w + c)

-- ---- drawings

-- a byte of the point of a drawing's box, and 0 beyond the box
abbrev pub byte_of : Raw → ℤ → ℤ → ℕ → ℕ
byte_of g x y b =
    if is_in_box g.x0 g.y0 g.w g.h x y then slice_index g.bytes (4 * place_in_box g.x0 g.y0 g.w x y + b) else 0

-- the bytes of an area are those of a drawing that is moved
pub record HoldBytes (on : Area) (g : Raw) (to : Point) (bytes : List ℕ) : Type 0 where
  pub whole : length bytes ≡ 4 * (on.w * on.h)
  pub each : (x y : ℤ) (b : ℕ) → Holds on x y → b < 4 → slice_index bytes (4 * place_of on x y + b) ≡ byte_of g (x -ℤ to.x) (y -ℤ to.y) b

-- no point of an area lies in the box of a drawing that is moved
abbrev pub LiesApart : Area → Raw → Point → Type 0
LiesApart on g to = (x y : ℤ) → Holds on x y → is_in_box g.x0 g.y0 g.w g.h (x -ℤ to.x) (y -ℤ to.y) ≡ false

-- what an area and the box of a drawing that is moved share along both axes
pub record IsOverlap (on : Area) (g : Raw) (to : Point) (o : Overlap) : Type 0 where
  pub across : AreShared on.x on.w (g.x0 +ℤ to.x) g.w o.across
  pub up : AreShared on.y on.h (g.y0 +ℤ to.y) g.h o.up
  pub wide : 0 < o.across.len
  pub high : 0 < o.up.len

-- the pixels of a colour drawing that is moved; clear beyond its box
abbrev pub pixel_image : Raw → Point → Image
pixel_image g to q = at_point (plain_picture g) (pixels g.bytes) clear (q.x -ℤ to.x) (q.y -ℤ to.y)

-- the words of a drawing that is moved, under a palette; clear beyond its box
abbrev pub word_image : Raw → List Channels → Point → Image
word_image g palette to q =
    at_point (plain_picture g) (map (colour_under (style_of palette)) (words_of g)) clear (q.x -ℤ to.x) (q.y -ℤ to.y)
