-- Going through bytes pixel by pixel.
use Rattle.std.proofs.Common.{◌≡◌, ℕ, ◌+◌, ◌*◌, ◌<◌, ◌≤◌, Bool, true, false, cond, ◌&&◌, nat_le, Option, Some, None, List, [], ◌∷◌, length, drop, get_or, Fits, w8, refl, ap, ◌∙◌, arith}
use Rattle.std.specs.List.{position_from}
use Rattle.std.specs.Simd.Lanes.{Each1}
use Rattle.std.proofs.lemmas.Bool.{not-false, and_parts}
use Rattle.std.proofs.lemmas.Bool.Decides.{nat_tests}
use Rattle.std.proofs.lemmas.List.{drop-drop, get_or-drop, length-drop}
use Rattle.std.proofs.lemmas.Simd.{Each1-from_get_or}
use Rattle.xs_pixel.specs.Channels.{Channels, channels, IsPixel}
use Rattle.xs_pixel.specs.PixelRows.{pixels}
use Rattle.xs_pixel.proofs.PixelRowLemmas.{pixels-short}
use Rattle.xs_rawfile.specs.Pixels.{exceeds}

-- a search that finds nothing passes its first item
head_passes : (b : Bool) (k : ℕ) (rest : Option ℕ) → cond b (Some k) rest ≡ None → (b ≡ false) × (rest ≡ None)
head_passes true k rest h = absurd cc
head_passes false k rest h = (refl, h)

-- the first pixel and those after it
pixels_next : (xs : List ℕ) → 4 ≤ length xs → pixels xs ≡ channels (get_or xs 0 0) (get_or xs 1 0) (get_or xs 2 0) (get_or xs 3 0) ∷ pixels (drop 4 xs)
pixels_next (r ∷ g ∷ b ∷ m ∷ xs) long = refl
pixels_next [] long = absurd (omega arith)
pixels_next (r ∷ []) long = absurd (omega arith)
pixels_next (r ∷ g ∷ []) long = absurd (omega arith)
pixels_next (r ∷ g ∷ b ∷ []) long = absurd (omega arith)

-- a pixel is premultiplied where no colour exceeds its matte, which is a byte
is_pixel : (p : Channels) → p.m ≤ 255 → exceeds p ≡ false → IsPixel p
is_pixel p top h =
    let all = and_parts (nat_le p.r p.m) (nat_le p.g p.m && nat_le p.b p.m) (not-false _ h) in
    let two = and_parts (nat_le p.g p.m) (nat_le p.b p.m) all.1 in
    record { red = grind (arith, nat_tests, all.0); green = grind (arith, nat_tests, two.0); blue = grind (arith, nat_tests, two.1); top = top }

exceeds_none : (p : Channels) → IsPixel p → exceeds p ≡ false
exceeds_none p h =
    let r : nat_le p.r p.m ≡ true = grind (arith, nat_tests, h.red) in
    let g : nat_le p.g p.m ≡ true = grind (arith, nat_tests, h.green) in
    let b : nat_le p.b p.m ≡ true = grind (arith, nat_tests, h.blue) in
    rw (r, g, b)

-- where no pixel exceeds, each is premultiplied
pub fills_from_none : (k : ℕ) (bytes : List ℕ) → Each1 (λ b. b ≤ 255) bytes → position_from exceeds k (pixels bytes) ≡ None → Each1 IsPixel (pixels bytes)
fills_from_none k (r ∷ g ∷ b ∷ m ∷ rest) bound h =
    let here = head_passes (exceeds (channels r g b m)) k (position_from exceeds (k + 1) (pixels rest)) h in
    (is_pixel (channels r g b m) bound.1.1.1.0 here.0, fills_from_none (k + 1) rest bound.1.1.1.1 here.1)
fills_from_none k [] bound h = tt
fills_from_none k (r ∷ []) bound h = tt
fills_from_none k (r ∷ g ∷ []) bound h = tt
fills_from_none k (r ∷ g ∷ b ∷ []) bound h = tt

pub none_from_fills : (k : ℕ) (ps : List Channels) → Each1 IsPixel ps → position_from exceeds k ps ≡ None
none_from_fills k [] each = refl
none_from_fills k (p ∷ ps) each = rw (exceeds_none p each.0) (none_from_fills (k + 1) ps each.1)

-- the bytes of a slice are bytes, from any place on
pub bytes_from : (n : ℕ) (xs : List ℕ) → ((k : ℕ) → Fits w8 (get_or xs k 0)) → Each1 (λ b. b ≤ 255) (drop n xs)
bytes_from n xs fits =
    Each1-from_get_or (λ b. b ≤ 255) (drop n xs) 0 (λ i within. let f = fits (n + i) in rw get_or-drop (omega (arith, f.fits)))

-- the pixel with number p of some bytes
abbrev nth_pixel : List ℕ → ℕ → Channels
nth_pixel xs p =
    let rest = drop (4 * p) xs in channels (get_or rest 0 0) (get_or rest 1 0) (get_or rest 2 0) (get_or rest 3 0)

at_pixel : (xs : List ℕ) (p : ℕ) → 4 * p + 4 ≤ length xs → pixels (drop (4 * p) xs) ≡ nth_pixel xs p ∷ pixels (drop (4 * (p + 1)) xs)
at_pixel xs p long =
    let next : 4 * p + 4 ≡ 4 * (p + 1) = omega arith in
    pixels_next (drop (4 * p) xs) (omega (arith, length-drop (4 * p) xs))
    ∙ ap (λ (rest : List ℕ). nth_pixel xs p ∷ pixels rest) (drop-drop 4 (4 * p) xs ∙ ap (λ (i : ℕ). drop i xs) next)

pub search_step : (xs : List ℕ) (p : ℕ) → 4 * p + 4 ≤ length xs → exceeds (nth_pixel xs p) ≡ false
    → position_from exceeds p (pixels (drop (4 * p) xs)) ≡ position_from exceeds (p + 1) (pixels (drop (4 * (p + 1)) xs))
search_step xs p long good = rw (at_pixel xs p long) (rw good)

pub search_found : (xs : List ℕ) (p : ℕ) → 4 * p + 4 ≤ length xs → exceeds (nth_pixel xs p) ≡ true → position_from exceeds p (pixels (drop (4 * p) xs)) ≡ Some p
search_found xs p long bad = rw (at_pixel xs p long) (rw bad)

pub search_end : (xs : List ℕ) (p : ℕ) → length xs < 4 * p + 4 → position_from exceeds p (pixels (drop (4 * p) xs)) ≡ None
search_end xs p short = rw (pixels-short (drop (4 * p) xs) (omega (arith, length-drop (4 * p) xs)))
