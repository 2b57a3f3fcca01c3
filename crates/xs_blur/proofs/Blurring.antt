-- The lines of a blur from the sums of columns.
use Rattle.std.proofs.Common.{◌≡◌, ℕ, zero, suc, ◌+◌, ◌*◌, ◌/◌, ◌<◌, ◌≤◌, ℤ, pos, ◌+ℤ◌, ◌-ℤ◌, unsigned_abs, true, false, replicate, List, [], ◌∷◌, length, get_or, slice_index_or, sum_by, refl, sym, ap, ap₂, ◌∙◌, inl, inr, subst, arith}
use Rattle.std.specs.Simd.Lanes.{Each1}
use Rattle.std.proofs.Math.Nat.{mul-le-mul_left, mul-le-mul_right, div-le_self}
use Rattle.std.proofs.lemmas.List.{get_or_past, get_or-replicate}
use Rattle.std.proofs.lemmas.Simd.{Each1-from_get_or, length-replicate}
use Rattle.std.proofs.lemmas.Bool.{cases_lt}
use Rattle.std.proofs.lemmas.Int.{ints}
use Rattle.xs_pixel.specs.Channels.{Channels, IsPixel, clear, channels}
use Rattle.xs_pixel.specs.Picture.{place_in_box}
use Rattle.xs_pixel.specs.PixelRows.{pixels}
use Rattle.xs_pixel.specs.Points.{Point, point, plus, square}
use Rattle.xs_pixel.specs.Images.{Image, blurred, mean_of}
use Rattle.xs_rect.specs.Area.{Area, area, Holds, Lies, grown}
use Rattle.xs_raster.specs.Bitmap.{Bitmap, blank, pixel_of, place_of}
use Rattle.xs_raster.specs.Changes.{SetsRow}
use Rattle.xs_blur.specs.Blurs.{Blurs, image_of}
use Rattle.xs_blur.specs.Totals.{AreColumns, AreMeans, column, window, total, in_square}
use Rattle.xs_blur.proofs.TotalLemmas.{total-le, total-same, total-swap, sum-square, column-le}
use Rattle.xs_blur.proofs.Squares.{IsPixel-blurred, IsPixel-image}

-- ---- the four bytes of a pixel

skip : (c c' r g b m : ℕ) (rest : List ℕ) → c' ≡ 4 + c → get_or (r ∷ g ∷ b ∷ m ∷ rest) c' 0 ≡ get_or rest c 0
skip c c' r g b m rest is = let e : c' ≡ suc (suc (suc (suc c))) = omega arith in rw e refl

same_channels :
    (r g b m r' g' b' m' : ℕ) → r ≡ r' → g ≡ g' → b ≡ b' → m ≡ m' → channels r g b m ≡ channels r' g' b' m'
same_channels r g b m r' g' b' m' red green blue matte = cc

pixel-at :
    (k : ℕ) (bytes : List ℕ) → 4 * k + 4 ≤ length bytes
    → get_or (pixels bytes) k clear ≡ channels (get_or bytes (4 * k + 0) 0) (get_or bytes (4 * k + 1) 0) (get_or bytes (4 * k + 2) 0) (get_or bytes (4 * k + 3) 0)
pixel-at k [] there = absurd (omega arith)
pixel-at k (r ∷ []) there = absurd (omega arith)
pixel-at k (r ∷ g ∷ []) there = absurd (omega arith)
pixel-at k (r ∷ g ∷ b ∷ []) there = absurd (omega arith)
pixel-at zero (r ∷ g ∷ b ∷ m ∷ rest) there = refl
pixel-at (suc k) (r ∷ g ∷ b ∷ m ∷ rest) there =
    pixel-at k rest (omega arith)
    ∙ sym (same_channels _ _ _ _ _ _ _ _
    (skip (4 * k + 0) (4 * suc k + 0) r g b m rest (omega arith)) (skip (4 * k + 1) (4 * suc k + 1) r g b m rest (omega arith))
    (skip (4 * k + 2) (4 * suc k + 2) r g b m rest (omega arith)) (skip (4 * k + 3) (4 * suc k + 3) r g b m rest (omega arith)))

abbrev channel_of : ℕ → Channels → ℕ
channel_of zero c = c.r
channel_of (suc zero) c = c.g
channel_of (suc (suc zero)) c = c.b
channel_of (suc (suc (suc k))) c = c.m

byte-at :
    (channel k : ℕ) (bytes : List ℕ) → channel < 4 → 4 * k + 4 ≤ length bytes
    → channel_of channel (get_or (pixels bytes) k clear) ≡ get_or bytes (4 * k + channel) 0
byte-at zero k bytes below there = ap (λ (c : Channels). c.r) (pixel-at k bytes there)
byte-at (suc zero) k bytes below there = ap (λ (c : Channels). c.g) (pixel-at k bytes there)
byte-at (suc (suc zero)) k bytes below there = ap (λ (c : Channels). c.b) (pixel-at k bytes there)
byte-at (suc (suc (suc zero))) k bytes below there = ap (λ (c : Channels). c.m) (pixel-at k bytes there)
byte-at (suc (suc (suc (suc k')))) k bytes below there = absurd (omega arith)

-- ---- an input with a border, by its bytes

pub record IsBordered (a : Area) (n : ℕ) (input : Bitmap) (bytes : List ℕ) : Type 0 where
  pub border : input.area ≡ grown a n
  pub seen : pixels bytes ≡ input.pixels
  pub whole : length bytes ≡ 4 * ((a.w + 2 * n) * (a.h + 2 * n))

-- the byte of a pixel of the square round a point
byte_in :
    (a : Area) (n : ℕ) (input : Bitmap) (bytes : List ℕ) (x y i j channel : ℕ) → IsBordered a n input bytes → x < a.w → y < a.h
    → i < 2 * n + 1 → j < 2 * n + 1 → channel < 4
    → get_or bytes (4 * (a.w + 2 * n) * (y + j) + (4 * (x + i) + channel)) 0
    ≡ channel_of channel (image_of input (in_square (point (a.x +ℤ pos x) (a.y +ℤ pos y)) n j i))
unfolding place_in_box
byte_in a n input bytes x y i j channel is across up column row below =
    let w = a.w + 2 * n in
    let k = (y + j) * w + (x + i) in
    let rows : (y + j + 1) * w ≤ (a.h + 2 * n) * w = mul-le-mul_right w (omega arith) in
    let there : 4 * k + 4 ≤ length bytes = omega (arith, rows, is.whole) in
    let index : 4 * w * (y + j) + (4 * (x + i) + channel) ≡ 4 * k + channel = omega arith in
    let p = in_square (point (a.x +ℤ pos x) (a.y +ℤ pos y)) n j i in
    let right : unsigned_abs (p.x -ℤ (a.x -ℤ pos n)) ≡ x + i = omega (arith, ints) in
    let high : unsigned_abs (p.y -ℤ (a.y -ℤ pos n)) ≡ y + j = omega (arith, ints) in
    let place : place_of (grown a n) p.x p.y ≡ k = rw (right, high) refl in
    ap (λ (c : ℕ). get_or bytes c 0) index
    ∙ sym (byte-at channel k bytes below there)
    ∙ ap (channel_of channel)
    (ap₂ (λ (ps : List Channels) (c : ℕ). get_or ps c clear) is.seen (sym place)
    ∙ ap (λ (b : Area). slice_index_or input.pixels (place_of b p.x p.y) clear) (sym is.border))

-- a channel of a pixel of a line
mean_at :
    (a : Area) (n : ℕ) (input : Bitmap) (bytes columns : List ℕ) (x y channel : ℕ) → IsBordered a n input bytes → x < a.w → y < a.h
    → channel < 4 → AreColumns columns bytes (4 * (a.w + 2 * n)) y (2 * n + 1)
    → window columns x (2 * n + 1) channel / ((2 * n + 1) * (2 * n + 1))
    ≡ mean_of (channel_of channel) n (image_of input) (point (a.x +ℤ pos x) (a.y +ℤ pos y))
unfolding window column
mean_at a n input bytes columns x y channel is across up below are =
    let side = 2 * n + 1 in
    let long = 4 * (a.w + 2 * n) in
    let p = point (a.x +ℤ pos x) (a.y +ℤ pos y) in
    let byte : ℕ → ℕ → ℕ = λ i j. get_or bytes (long * (y + j) + (4 * (x + i) + channel)) 0 in
    let seen : ℕ → ℕ → ℕ = λ j i. channel_of channel (image_of input (in_square p n j i)) in
    let sums = total-same (λ i. get_or columns (4 * (x + i) + channel) 0) (λ i. total (byte i) side) side
    (λ i h. are (4 * (x + i) + channel) (omega arith)) in
    let pixels_are = total-same (λ j. total (λ i. byte i j) side) (λ j. total (seen j) side) side
    (λ j row. total-same (λ i. byte i j) (seen j) side (λ i col. byte_in a n input bytes x y i j channel is across up col row below)) in
    ap (λ (s : ℕ). s / (side * side))
    (sums ∙ total-swap byte side side ∙ pixels_are ∙ sym (sum-square (λ q. channel_of channel (image_of input (plus p q))) n))

-- a line of the blur
pub line_blurs :
    (a : Area) (n : ℕ) (input : Bitmap) (bytes columns line : List ℕ) (long x y side count : ℕ) → IsBordered a n input bytes
    → long ≡ 4 * (a.w + 2 * n) → side ≡ 2 * n + 1 → count ≡ a.w → AreColumns columns bytes long y side → AreMeans columns side line count
    → length line ≡ 4 * a.w → y < a.h → x < a.w
    → get_or (pixels line) x clear ≡ blurred n (image_of input) (point (a.x +ℤ pos x) (a.y +ℤ pos y))
unfolding blurred
line_blurs a n input bytes columns line long x y side count is wide odd all are means whole up across =
    let sums : AreColumns columns bytes (4 * (a.w + 2 * n)) y (2 * n + 1) = rw (← wide, ← odd) are in
    let made : AreMeans columns (2 * n + 1) line a.w = rw (← odd, ← all) means in
    pixel-at x line (omega arith)
    ∙ same_channels _ _ _ _ _ _ _ _
    (made x 0 (omega arith) across ∙ mean_at a n input bytes columns x y 0 is across up (omega arith) sums)
    (made x 1 (omega arith) across ∙ mean_at a n input bytes columns x y 1 is across up (omega arith) sums)
    (made x 2 (omega arith) across ∙ mean_at a n input bytes columns x y 2 is across up (omega arith) sums)
    (made x 3 (omega arith) across ∙ mean_at a n input bytes columns x y 3 is across up (omega arith) sums)

pub line_is_pixels :
    (a : Area) (n : ℕ) (input : Bitmap) (line : List ℕ) (y : ℕ) → Each1 IsPixel input.pixels → length (pixels line) ≡ a.w
    → ((x : ℕ) → x < a.w → get_or (pixels line) x clear ≡ blurred n (image_of input) (point (a.x +ℤ pos x) (a.y +ℤ pos y)))
    → Each1 IsPixel (pixels line)
line_is_pixels a n input line y valid long blurs =
    Each1-from_get_or IsPixel (pixels line) clear
    (λ x within. subst IsPixel (sym (blurs x (omega arith))) (IsPixel-blurred n (image_of input) (point (a.x +ℤ pos x) (a.y +ℤ pos y)) (IsPixel-image input valid)))

-- ---- the rows of the input

pub bordered :
    (a : Area) (n : ℕ) (input : Bitmap) (bytes : List ℕ) (r : Area) → r ≡ input.area → length input.pixels ≡ r.w * r.h → input.area ≡ grown a n
    → pixels bytes ≡ input.pixels → length bytes ≡ 4 * length input.pixels → IsBordered a n input bytes
bordered a n input bytes r is size border seen whole = record {
  border = border;
  seen = seen;
  whole = whole ∙ ap (λ (k : ℕ). 4 * k) (size ∙ ap (λ (b : Area). b.w * b.h) (is ∙ border));
}

pub rows_fit :
    (a : Area) (n : ℕ) (input : Bitmap) (bytes : List ℕ) (long y : ℕ) → IsBordered a n input bytes → long ≡ 4 * (a.w + 2 * n) → y < a.h
    → long * (y + 2 * n + 1) ≤ length bytes
rows_fit a n input bytes long y is wide up =
    let rows : long * (y + 2 * n + 1) ≤ long * (a.h + 2 * n) = mul-le-mul_left long (omega arith) in
    let all : long * (a.h + 2 * n) ≡ 4 * (a.w + 2 * n) * (a.h + 2 * n) = ap (λ (k : ℕ). k * (a.h + 2 * n)) wide in
    omega (arith, rows, all, is.whole)

pub columns_small :
    (sums bytes : List ℕ) (long y k : ℕ) → AreColumns sums bytes long y k → length sums ≡ long → ((i : ℕ) → get_or bytes i 0 ≤ 255)
    → (i : ℕ) → get_or sums i 0 ≤ 255 * k
columns_small sums bytes long y k are whole small i = elim (cases_lt i long) [
  | inl within ↦ omega (arith, are i within, column-le bytes long y k i small)
  | inr past ↦ omega (arith, get_or_past sums i 0 (omega arith))
]

-- ---- line by line

-- the first lines of the result are blurred
pub record IsBlurredBelow (n : ℕ) (input : Bitmap) (a : Area) (count : ℕ) (r : Bitmap) : Type 0 where
  pub same_area : r.area ≡ a
  pub has_bytes : r.has_bytes ≡ true
  pub each : (x y : ℤ) → Holds (area a.x a.y a.w count) x y → pixel_of r x y ≡ blurred n (image_of input) (point x y)

pub blurred_none : (n : ℕ) (input r : Bitmap) → r.has_bytes ≡ true → IsBlurredBelow n input r.area 0 r
blurred_none n input r has = record {
  same_area = refl;
  has_bytes = has;
  each = λ x y held. absurd (omega (arith, ints, held.up.least, held.up.below));
}

pub blurred_more :
    (n : ℕ) (input : Bitmap) (a : Area) (count : ℕ) (old new : Bitmap) (line : List Channels) → IsBlurredBelow n input a count old
    → count < a.h → SetsRow old new a.x (a.y +ℤ pos count) line → length line ≡ a.w
    → ((x : ℕ) → x < a.w → get_or line x clear ≡ blurred n (image_of input) (point (a.x +ℤ pos x) (a.y +ℤ pos count)))
    → IsBlurredBelow n input a (count + 1) new
blurred_more n input a count old new line before more sets long is = record {
  same_area = sets.same_area ∙ before.same_area;
  has_bytes = sets.same_kind ∙ before.has_bytes;
  each = λ x y held. elim (cases_lt (unsigned_abs (y -ℤ a.y)) count) [
    | inl below ↦
        let up_to : Lies a.y count y = record { least = held.up.least; below = omega (arith, ints, held.up.least) } in
        let all : Lies a.y a.h y = record { least = held.up.least; below = omega (arith, ints, held.up.least, held.up.below) } in
        sets.kept x y (subst (λ (b : Area). Holds b x y) (sym before.same_area) (record { across = held.across; up = all }))
        (λ on. omega (arith, ints, on.up.least, held.up.least))
        ∙ before.each x y (record { across = held.across; up = up_to })
    | inr above ↦
        let row : y ≡ a.y +ℤ pos count = omega (arith, ints, held.up.least, held.up.below) in
        let on : Lies a.x (length line) x = subst (λ (n : ℕ). Lies a.x n x) (sym long) held.across in
        let place = unsigned_abs (x -ℤ a.x) in
        let within : place < a.w = omega (arith, ints, held.across.least, held.across.below) in
        let at : a.x +ℤ pos place ≡ x = omega (arith, ints, held.across.least) in
        rw row (sets.set x on ∙ is place within ∙ ap (λ (z : ℤ). blurred n (image_of input) (point z (a.y +ℤ pos count))) at)
  ];
}

pub blurred_all :
    (n : ℕ) (input : Bitmap) (a : Area) (count : ℕ) (r : Bitmap) → IsBlurredBelow n input a count r → count ≡ a.h → input.has_bytes ≡ true
    → Blurs n input r
blurred_all n input a count r done all has = record {
  each = λ x y held.
      let on : Holds a x y = subst (λ (b : Area). Holds b x y) done.same_area held in
      done.each x y (record { across = on.across; up = subst (λ (k : ℕ). Lies a.y k y) (sym all) on.up });
  same_kind = done.has_bytes ∙ sym has;
}

-- ---- clear rasters

all_clear : (count k : ℕ) → get_or (replicate count clear) k clear ≡ clear
all_clear count k = elim (cases_lt k count) [
  | inl within ↦ get_or-replicate count k clear clear within
  | inr past ↦ get_or_past (replicate count clear) k clear (omega (arith, length-replicate count clear))
]

clear_mean : (channel : Channels → ℕ) (n : ℕ) (image : Image) (p : Point) → ((q : Point) → channel (image q) ≡ 0) → 0 ≡ mean_of channel n image p
clear_mean channel n image p none =
    let side = 2 * n + 1 in
    let lines = total-le (λ j. total (λ i. channel (image (in_square p n j i))) side) 0 side
    (λ j h. omega (arith, total-le (λ i. channel (image (in_square p n j i))) 0 side (λ i h'. omega (arith, none (in_square p n j i))))) in
    let sum : sum_by (λ q. channel (image (plus p q))) (square n) ≡ 0 = omega (arith, lines, sum-square (λ q. channel (image (plus p q))) n) in
    let least = div-le_self 0 (side * side) in
    sym (ap (λ (s : ℕ). s / (side * side)) sum ∙ (let e : 0 / (side * side) ≡ 0 = omega (arith, least) in e))

pub blurs_blank : (n : ℕ) (a : Area) (input r : Bitmap) → input ≡ blank input.area → r ≡ blank a → input.has_bytes ≡ false → Blurs n input r
unfolding blurred
blurs_blank n a input r clear_input is has = record {
  each = λ x y held.
      ap (λ (b : Bitmap). pixel_of b x y) is
      ∙ all_clear (a.w * a.h) (place_of a x y)
      ∙ same_channels _ _ _ _ _ _ _ _
      (clear_mean (λ c. c.r) n (image_of input) (point x y) (λ q. ap (λ (c : Channels). c.r) (seen q)))
      (clear_mean (λ c. c.g) n (image_of input) (point x y) (λ q. ap (λ (c : Channels). c.g) (seen q)))
      (clear_mean (λ c. c.b) n (image_of input) (point x y) (λ q. ap (λ (c : Channels). c.b) (seen q)))
      (clear_mean (λ c. c.m) n (image_of input) (point x y) (λ q. ap (λ (c : Channels). c.m) (seen q)));
  same_kind = ap (λ (b : Bitmap). b.has_bytes) is ∙ sym has;
}
  where
    seen : (q : Point) → image_of input q ≡ clear
    seen q =
        ap (λ (ps : List Channels). slice_index_or ps (place_of input.area q.x q.y) clear) (ap (λ (b : Bitmap). b.pixels) clear_input)
        ∙ all_clear (input.area.w * input.area.h) (place_of input.area q.x q.y)
