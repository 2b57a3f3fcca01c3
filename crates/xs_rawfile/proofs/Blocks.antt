-- Going through bytes by blocks of four pixels.
use Rattle.std.proofs.Common.{◌≡◌, ℕ, ◌+◌, ◌*◌, zero, suc, true, false, cond, ltb, nat_le, List, [], ◌∷◌, take, drop, refl, arith}
use Rattle.std.specs.List.{position_from}
use Rattle.std.specs.Simd.Lanes.{Each1, zip2, chunk}
use lib.Lanes.{mask_l}
use Rattle.std.proofs.lemmas.Bool.Decides.{nat_tests}
use Rattle.std.proofs.lemmas.List.{drop-drop}
use Rattle.xs_pixel.specs.Channels.{Channels}
use Rattle.xs_pixel.specs.PixelRows.{pixels, mattes_of}
use Rattle.xs_rawfile.specs.Pixels.{exceeds}

-- no colour exceeds the matte of a pixel where no bit is set for it
pub none_exceeds : (xs : List ℕ) → mask_l (zip2 ltb (mattes_of xs) xs) ≡ 0 → Each1 (λ p. exceeds p ≡ false) (pixels xs)
none_exceeds [] none = tt
none_exceeds (r ∷ []) none = tt
none_exceeds (r ∷ g ∷ []) none = tt
none_exceeds (r ∷ g ∷ b ∷ []) none = tt
none_exceeds (r ∷ g ∷ b ∷ m ∷ xs) none =
    let no_red : cond {A = ℕ} (ltb m r) 1 0 ≡ 0 = omega (arith, none) in
    let no_green : cond {A = ℕ} (ltb m g) 1 0 ≡ 0 = omega (arith, none) in
    let no_blue : cond {A = ℕ} (ltb m b) 1 0 ≡ 0 = omega (arith, none) in
    let red : nat_le r m ≡ true = grind (arith, nat_tests, no_red) in
    let green : nat_le g m ≡ true = grind (arith, nat_tests, no_green) in
    let blue : nat_le b m ≡ true = grind (arith, nat_tests, no_blue) in
    (rw (red, green, blue) refl, none_exceeds xs (omega (arith, none)))

-- a search passes the items that aren't what it looks for
search_passes :
    (n k : ℕ) (ps : List Channels) → Each1 (λ p. exceeds p ≡ false) (take n ps)
    → position_from exceeds k ps ≡ position_from exceeds (k + n) (drop n ps)
search_passes zero k ps good = let same : k + 0 ≡ k = omega arith in rw same refl
search_passes (suc n) k [] good = refl
search_passes (suc n) k (p ∷ ps) good =
    let next : k + suc n ≡ k + 1 + n = omega arith in rw (next, good.0) (search_passes n (k + 1) ps good.1)

-- the search goes on after a block in which no colour exceeds its matte
pub search_block :
    (xs : List ℕ) (p : ℕ) → ((k : ℕ) → pixels (drop (4 * k) xs) ≡ drop k (pixels xs))
    → pixels (chunk (4 * p) 16 xs) ≡ chunk p 4 (pixels xs)
    → Each1 (λ q. exceeds q ≡ false) (pixels (chunk (4 * p) 16 xs))
    → position_from exceeds p (pixels (drop (4 * p) xs)) ≡ position_from exceeds (p + 4) (pixels (drop (4 * (p + 4)) xs))
search_block xs p rest part good =
    rw (rest p, rest (p + 4), ← drop-drop 4 p (pixels xs)) (search_passes 4 p (drop p (pixels xs)) (rw part at good))
