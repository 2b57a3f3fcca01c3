-- The mixes of inks and paints by lanes, and the colours of whole words.
use Rattle.std.proofs.Common.{◌≡◌, ℕ, ◌+◌, ◌-◌, ◌*◌, ◌/◌, ◌%◌, ◌^◌, ◌≤◌, List, [], ◌∷◌, length, map, replicate, refl, sym, ap, subst, ◌∙◌, arith}
use Rattle.std.specs.Simd.Lanes.{Each1, zip2, number_l}
use Rattle.std.proofs.Math.Nat.{mul-le-mul_right}
use mir.Syntax.{w8}
use mir.Val.{Fits}
use Rattle.xs_pixel.specs.Channels.{Channels, channels}
use Rattle.xs_pixel.specs.PixelRows.{pixels}
use Rattle.xs_cm32.specs.WordRows.{words}
use Rattle.xs_cm32.specs.Word.{mixed, ink_of, paint_of, tone_of, colour_under}
use Rattle.xs_cm32.proofs.Mixes.{mixed_le_255}
use Rattle.xs_lanes.specs.WordColours.{tones_of, mixes_of}

-- a mix of two bytes without a division, in 16 bits
mixed_is :
    (t i p : ℕ) → t ≤ 255 → i ≤ 255 → p ≤ 255
    → let s = (i * (2 ^ 8 - 1 - t) % 2 ^ 16 + p * t % 2 ^ 16) % 2 ^ 16 in
    ((s + 1) % 2 ^ 16 + s / 2 ^ 8) % 2 ^ 16 / 2 ^ 8 ≡ mixed t i p
unfolding mixed
mixed_is t i p within inks paints =
    let first : i * (255 - t) ≤ 255 * (255 - t) = mul-le-mul_right (255 - t) inks in
    let second : p * t ≤ 255 * t = mul-le-mul_right t paints in
    omega (arith, first, second)

-- the same of each lane, as the code computes it
abbrev mixes_made : ℕ → List ℕ → List ℕ → List ℕ → List ℕ
mixes_made n tones inks paints =
    let ink = zip2 (λ a b. a * b % 2 ^ 16) (map (λ a. a) inks) (map (λ a. a) (map (λ a. 2 ^ 8 - 1 - a) tones)) in
    let sums = zip2 (λ a b. (a + b) % 2 ^ 16) ink (zip2 (λ a b. a * b % 2 ^ 16) (map (λ a. a) paints) (map (λ a. a) tones)) in
    let one_more = zip2 (λ a b. (a + b) % 2 ^ 16) sums (replicate n 1) in
    let corrected = zip2 (λ a b. (a + b) % 2 ^ 16) one_more (zip2 (λ a b. a / 2 ^ b) sums (replicate n 8)) in
    zip2 (λ a b. a / 2 ^ b) corrected (replicate n 8)

mixes_by_length :
    (tones inks paints : List ℕ) → length inks ≡ length tones → length paints ≡ length tones
    → Each1 (Fits w8) tones → Each1 (Fits w8) inks → Each1 (Fits w8) paints
    → mixes_made (length tones) tones inks paints ≡ mixes_of tones inks paints
mixes_by_length [] [] [] il pl ft fi fp = refl
mixes_by_length [] [] (p ∷ paints) il pl ft fi fp = absurd (omega arith)
mixes_by_length [] (i ∷ inks) paints il pl ft fi fp = absurd (omega arith)
mixes_by_length (t ∷ tones) [] paints il pl ft fi fp = absurd (omega arith)
mixes_by_length (t ∷ tones) (i ∷ inks) [] il pl ft fi fp = absurd (omega arith)
mixes_by_length (t ∷ tones) (i ∷ inks) (p ∷ paints) il pl ft fi fp =
    let one = mixed_is t i p (omega (arith, ft.0)) (omega (arith, fi.0)) (omega (arith, fp.0)) in
    let later = mixes_by_length tones inks paints (omega arith) (omega arith) ft.1 fi.1 fp.1 in
    rw one (ap (λ ms. mixed t i p ∷ ms) later)

pub mixes_are :
    (tones inks paints : List ℕ) → length tones ≡ 16 → length inks ≡ 16 → length paints ≡ 16
    → Each1 (Fits w8) tones → Each1 (Fits w8) inks → Each1 (Fits w8) paints
    → mixes_made 16 tones inks paints ≡ mixes_of tones inks paints
mixes_are tones inks paints tl il pl ft fi fp =
    subst (λ (n : ℕ). mixes_made n tones inks paints ≡ mixes_of tones inks paints) tl
    (mixes_by_length tones inks paints (il ∙ sym tl) (pl ∙ sym tl) ft fi fp)

Each1-mixes :
    (tones inks paints : List ℕ) → Each1 (Fits w8) tones → Each1 (Fits w8) inks → Each1 (Fits w8) paints
    → Each1 (Fits w8) (mixes_of tones inks paints)
Each1-mixes [] inks paints ft fi fp = tt
Each1-mixes (t ∷ tones) [] paints ft fi fp = tt
Each1-mixes (t ∷ tones) (i ∷ inks) [] ft fi fp = tt
Each1-mixes (t ∷ tones) (i ∷ inks) (p ∷ paints) ft fi fp =
    let small = mixed_le_255 t i p (omega (arith, ft.0)) (omega (arith, fi.0)) (omega (arith, fp.0)) in
    (record { fits = omega (arith, small) }, Each1-mixes tones inks paints ft.1 fi.1 fp.1)

-- the mixes fit a byte, as the last cast asks
pub mixes_fit :
    (tones inks paints : List ℕ) → length tones ≡ 16 → length inks ≡ 16 → length paints ≡ 16
    → Each1 (Fits w8) tones → Each1 (Fits w8) inks → Each1 (Fits w8) paints
    → Each1 (Fits w8) (mixes_made 16 tones inks paints)
mixes_fit tones inks paints tl il pl ft fi fp =
    subst (λ (ms : List ℕ). Each1 (Fits w8) ms) (sym (mixes_are tones inks paints tl il pl ft fi fp))
    (Each1-mixes tones inks paints ft fi fp)

-- a mix of pixels by a tone that stands in the lowest byte of a word
mix_is :
    (style : ℕ → Channels) (w t : ℕ) (ink paint : Channels) → tone_of w ≡ t → ink ≡ style (ink_of w)
    → paint ≡ style (paint_of w)
    → channels (mixed t ink.r paint.r) (mixed t ink.g paint.g) (mixed t ink.b paint.b) (mixed t ink.m paint.m) ≡ colour_under style w
mix_is style w t ink paint tone is_ink is_paint = rw (is_ink, is_paint, ← tone) refl

tone_is : (a b c d : ℕ) → a ≤ 255 → tone_of (number_l 256 (a ∷ b ∷ c ∷ d ∷ [])) ≡ a
tone_is a b c d small = omega arith

-- the mixes of the pixels of inks and paints are the colours of the words
pub colours_are :
    (style : ℕ → Channels) (row inks paints : List ℕ) → Each1 (Fits w8) row → length inks ≡ length row
    → length paints ≡ length row → pixels inks ≡ map (λ w. style (ink_of w)) (words row)
    → pixels paints ≡ map (λ w. style (paint_of w)) (words row)
    → pixels (mixes_of (tones_of row) inks paints) ≡ map (colour_under style) (words row)
colours_are style [] inks paints fit il pl is_ink is_paint = refl
colours_are style (a ∷ []) inks paints fit il pl is_ink is_paint = refl
colours_are style (a ∷ b ∷ []) inks paints fit il pl is_ink is_paint = refl
colours_are style (a ∷ b ∷ c ∷ []) inks paints fit il pl is_ink is_paint = refl
colours_are style (a ∷ b ∷ c ∷ d ∷ row) [] paints fit il pl is_ink is_paint = absurd (omega arith)
colours_are style (a ∷ b ∷ c ∷ d ∷ row) (i ∷ []) paints fit il pl is_ink is_paint = absurd (omega arith)
colours_are style (a ∷ b ∷ c ∷ d ∷ row) (i ∷ j ∷ []) paints fit il pl is_ink is_paint = absurd (omega arith)
colours_are style (a ∷ b ∷ c ∷ d ∷ row) (i ∷ j ∷ k ∷ []) paints fit il pl is_ink is_paint = absurd (omega arith)
colours_are style (a ∷ b ∷ c ∷ d ∷ row) (i ∷ j ∷ k ∷ l ∷ inks) [] fit il pl is_ink is_paint = absurd (omega arith)
colours_are style (a ∷ b ∷ c ∷ d ∷ row) (i ∷ j ∷ k ∷ l ∷ inks) (p ∷ []) fit il pl is_ink is_paint = absurd (omega arith)
colours_are style (a ∷ b ∷ c ∷ d ∷ row) (i ∷ j ∷ k ∷ l ∷ inks) (p ∷ q ∷ []) fit il pl is_ink is_paint = absurd (omega arith)
colours_are style (a ∷ b ∷ c ∷ d ∷ row) (i ∷ j ∷ k ∷ l ∷ inks) (p ∷ q ∷ r ∷ []) fit il pl is_ink is_paint = absurd (omega arith)
colours_are style (a ∷ b ∷ c ∷ d ∷ row) (i ∷ j ∷ k ∷ l ∷ inks) (p ∷ q ∷ r ∷ s ∷ paints) fit il pl is_ink is_paint =
    let w : ℕ = number_l 256 (a ∷ b ∷ c ∷ d ∷ []) in
    let ink : channels i j k l ≡ style (ink_of w) = cc in
    let paint : channels p q r s ≡ style (paint_of w) = cc in
    let more_ink : pixels inks ≡ map (λ v. style (ink_of v)) (words row) = cc in
    let more_paint : pixels paints ≡ map (λ v. style (paint_of v)) (words row) = cc in
    let one = mix_is style w a (channels i j k l) (channels p q r s) (tone_is a b c d (omega (arith, fit.0))) ink paint in
    let later = colours_are style row inks paints fit.1.1.1.1 (omega arith) (omega arith) more_ink more_paint in
    cc
