-- What the operations do to whole pixels of bytes, four lanes for each.
use Rattle.std.proofs.Common.{◌≡◌, ℕ, ◌+◌, ◌-◌, ◌*◌, ◌%◌, ◌≤◌, min, suc, List, ◌∷◌, length, map, refl, ap, arith}
use Rattle.std.specs.Simd.Lanes.{Each1, zip2}
use Rattle.xs_base.proofs.ByFours.{both_by_fours}
use Rattle.xs_pixel.specs.Channels.{channels, IsPixel}
use Rattle.xs_pixel.specs.PixelRows.{pixels, mattes_of}
use Rattle.xs_pixel.specs.Operations.{product, by_channel, faded_of, over_of, sub_of, matte_in_of, matte_out_of}
use Rattle.xs_pixel.proofs.Products.{product-opaque, product-zero_right}
use Rattle.xs_pixel.proofs.StaysPixel.{IsPixel-over_of}
use Rattle.xs_lanes.specs.WordColours.{colour_lanes}

-- a fact of two rows of n pixels each
abbrev OfBlocks : (ℕ → List ℕ → List ℕ → Type 0) → Type 0
OfBlocks P = (n : ℕ) (u d : List ℕ) → length u ≡ 4 * n → length d ≡ 4 * n → P n u d

-- an operation that makes each channel from that channel alone
pub pixels-zip2 :
    (f : ℕ → ℕ → ℕ)
    → OfBlocks (λ n u d. pixels (zip2 f u d) ≡ zip2 (by_channel (λ c m e k. f c e)) (pixels u) (pixels d))
pixels-zip2 f =
    both_by_fours (λ n u d. pixels (zip2 f u d) ≡ zip2 (by_channel (λ c m e k. f c e)) (pixels u) (pixels d)) refl
    (λ n r g b m x y z w u d later. ap (λ ps. channels (f r x) (f g y) (f b z) (f m w) ∷ ps) later)

-- the upper pixel as a part that the lower matte gives
abbrev IsMatteIn : ℕ → List ℕ → List ℕ → Type 0
IsMatteIn n u d = pixels (zip2 product u (mattes_of d)) ≡ zip2 matte_in_of (pixels u) (pixels d)

pub matte_in_block : OfBlocks IsMatteIn
matte_in_block =
    both_by_fours IsMatteIn refl (λ n r g b m x y z w u d later. ap (λ ps. faded_of (channels r g b m) w ∷ ps) later)

abbrev IsMatteOut : ℕ → List ℕ → List ℕ → Type 0
IsMatteOut n u d =
    pixels (zip2 product u (map (λ a. 255 - a) (mattes_of d))) ≡ zip2 matte_out_of (pixels u) (pixels d)

pub matte_out_block : OfBlocks IsMatteOut
matte_out_block =
    both_by_fours IsMatteOut refl (λ n r g b m x y z w u d later. ap (λ ps. faded_of (channels r g b m) (255 - w) ∷ ps) later)

-- the lower pixel without the colours of the upper one
abbrev IsSub : ℕ → List ℕ → List ℕ → Type 0
IsSub n u d =
    Each1 IsPixel (pixels u)
    → pixels (zip2 (λ a b. a - b) d (zip2 min u (colour_lanes n))) ≡ zip2 sub_of (pixels u) (pixels d)

pub sub_block : OfBlocks IsSub
sub_block = both_by_fours IsSub (λ valid. refl) next
  where
    next : (n r g b m x y z w : ℕ) (u d : List ℕ) → IsSub n u d → IsSub (suc n) (r ∷ g ∷ b ∷ m ∷ u) (x ∷ y ∷ z ∷ w ∷ d)
    next n r g b m x y z w u d rest valid =
        let red : x - min r 255 ≡ x - r = omega (arith, valid.0.red, valid.0.top) in
        let green : y - min g 255 ≡ y - g = omega (arith, valid.0.green, valid.0.top) in
        let blue : z - min b 255 ≡ z - b = omega (arith, valid.0.blue, valid.0.top) in
        let matte : w - min m 0 ≡ w = omega arith in
        let later = rest valid.1 in
        cc

-- the upper pixel over what shows of the lower one
abbrev IsOver : ℕ → List ℕ → List ℕ → Type 0
IsOver n u d =
    Each1 IsPixel (pixels u) → Each1 IsPixel (pixels d)
    → pixels (zip2 (λ a b. (a + b) % 256) u (zip2 product d (map (λ a. 255 - a) (mattes_of u))))
    ≡ zip2 over_of (pixels u) (pixels d)

pub over_block : OfBlocks IsOver
over_block = both_by_fours IsOver (λ upper lower. refl) next
  where
    next : (n r g b m x y z w : ℕ) (u d : List ℕ) → IsOver n u d → IsOver (suc n) (r ∷ g ∷ b ∷ m ∷ u) (x ∷ y ∷ z ∷ w ∷ d)
    next n r g b m x y z w u d rest upper lower =
        let valid = IsPixel-over_of (channels r g b m) (channels x y z w) upper.0 lower.0 in
        let red : (r + product x (255 - m)) % 256 ≡ r + product x (255 - m) = omega (arith, valid.red, valid.top) in
        let green : (g + product y (255 - m)) % 256 ≡ g + product y (255 - m) = omega (arith, valid.green, valid.top) in
        let blue : (b + product z (255 - m)) % 256 ≡ b + product z (255 - m) = omega (arith, valid.blue, valid.top) in
        let matte : (m + product w (255 - m)) % 256 ≡ m + product w (255 - m) = omega (arith, valid.top) in
        let later = rest upper.1 lower.1 in
        cc

-- a channel under a clear pixel
through_clear : (c m e : ℕ) → c ≤ m → m ≡ 0 → c + product e (255 - m) ≡ e
through_clear c m e within none = let all : 255 - m ≡ 255 = omega arith in rw (all, product-opaque e) (omega arith)

-- a channel of an opaque pixel
of_opaque : (c m e : ℕ) → m ≡ 255 → c + product e (255 - m) ≡ c
of_opaque c m e full = let none : 255 - m ≡ 0 = omega arith in rw (none, product-zero_right e) (omega arith)

-- clear pixels over others leave these
abbrev IsThroughClear : ℕ → List ℕ → List ℕ → Type 0
IsThroughClear n u d =
    Each1 IsPixel (pixels u) → Each1 (λ a. a ≡ 0) (mattes_of u) → pixels d ≡ zip2 over_of (pixels u) (pixels d)

pub over_clear : OfBlocks IsThroughClear
over_clear = both_by_fours IsThroughClear (λ valid none. refl) next
  where
    next :
        (n r g b m x y z w : ℕ) (u d : List ℕ) → IsThroughClear n u d
        → IsThroughClear (suc n) (r ∷ g ∷ b ∷ m ∷ u) (x ∷ y ∷ z ∷ w ∷ d)
    next n r g b m x y z w u d rest valid none =
        let red = through_clear r m x valid.0.red none.0 in
        let green = through_clear g m y valid.0.green none.0 in
        let blue = through_clear b m z valid.0.blue none.0 in
        let matte = through_clear m m w (omega arith) none.0 in
        let later = rest valid.1 none.1.1.1.1 in
        cc

-- opaque pixels over others hide them
abbrev IsHidden : ℕ → List ℕ → List ℕ → Type 0
IsHidden n u d = Each1 (λ a. a ≡ 255) (mattes_of u) → pixels u ≡ zip2 over_of (pixels u) (pixels d)

pub over_opaque : OfBlocks IsHidden
over_opaque = both_by_fours IsHidden (λ full. refl) next
  where
    next : (n r g b m x y z w : ℕ) (u d : List ℕ) → IsHidden n u d → IsHidden (suc n) (r ∷ g ∷ b ∷ m ∷ u) (x ∷ y ∷ z ∷ w ∷ d)
    next n r g b m x y z w u d rest full =
        let red = of_opaque r m x full.0 in
        let green = of_opaque g m y full.0 in
        let blue = of_opaque b m z full.0 in
        let matte = of_opaque m m w full.0 in
        let later = rest full.1.1.1.1 in
        cc
