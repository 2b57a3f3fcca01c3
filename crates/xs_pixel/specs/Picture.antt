use Rattle.std.specs.Prelude.{ℕ, ◌+◌, ◌*◌, ℤ, pos, ◌+ℤ◌, ◌-ℤ◌, int_le, int_lt, ◌&&◌, Bool, Option, IfSome, List, [], All, slice_index_or, unsigned_abs, if◌then◌else◌}
use Rattle.xs_pixel.specs.Channels.{Channels, IsPixel, clear}

-- what a level file holds: premultiplied pixels, or words of ink, paint and tone
pub data Content : Type 0 where
  Pixels : (pixels : List Channels) → Content
  Words : (words : List ℕ) → Content

-- a drawing as it lies in the picture: the corner of its box with the least x and y, the sides of the
-- box, what its file holds, and the pixels that are seen, with its words coloured. All lists go
-- through the box from its lowest row up, each row from left to right
pub record Picture : Type 0 where
  pub x0 : ℤ
  pub y0 : ℤ
  pub w : ℕ
  pub h : ℕ
  pub content : Content
  pub coloured : List Channels

-- whether a point lies in the box of these corner and sides
abbrev pub is_in_box : ℤ → ℤ → ℕ → ℕ → ℤ → ℤ → Bool
is_in_box x0 y0 w h x y =
    (int_le x0 x && int_lt x (x0 +ℤ pos w)) && (int_le y0 y && int_lt y (y0 +ℤ pos h))

-- the place of a point of the box in lists that go through it by rows
unfoldable pub place_in_box : ℤ → ℤ → ℕ → ℤ → ℤ → ℕ
place_in_box x0 y0 w x y = unsigned_abs (y -ℤ y0) * w + unsigned_abs (x -ℤ x0)

-- the item of such a list at a point, and `outside` beyond the box
unfoldable pub at_point : {A : Type 0} → Picture → List A → A → ℤ → ℤ → A
at_point p items outside x y =
    if is_in_box p.x0 p.y0 p.w p.h x y
    then slice_index_or items (place_in_box p.x0 p.y0 p.w x y) outside
    else outside

-- the pixel of a picture at a point, clear beyond the box
abbrev pub pixel_at : Picture → ℤ → ℤ → Channels
pixel_at p x y = at_point p p.coloured clear x y

-- the picture of each drawing, by its number, if its file is there
abbrev pub Pictures : Type 0
Pictures = ℕ → Option Picture

-- the pixels of a colour file, the words of a CM32 file
abbrev pub pixels_in : Content → List Channels
pixels_in (Pixels pixels) = pixels
pixels_in (Words words) = []

abbrev pub words_in : Content → List ℕ
words_in (Pixels pixels) = []
words_in (Words words) = words

abbrev pub HoldsPixels : Content → Type 0
HoldsPixels (Pixels pixels) = All IsPixel pixels
HoldsPixels (Words words) = Unit {0}

-- the pixels of colour files are pixels
abbrev pub ArePixels : Pictures → Type 0
ArePixels pictures = (d : ℕ) → IfSome (pictures d) (λ q. HoldsPixels q.content)

-- P holds of each word of the pictures
abbrev pub EachWord : (ℕ → Type 0) → Pictures → Type 0
EachWord P pictures = (d : ℕ) → IfSome (pictures d) (λ q. All P (words_in q.content))
