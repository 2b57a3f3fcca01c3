-- Laws of a row of bytes seen as pixels. A place or a count of bytes is four times one of pixels.
use Rattle.std.proofs.Common.{◌≡◌, ℕ, ◌+◌, ◌-◌, ◌*◌, ◌<◌, ◌≤◌, zero, suc, List, [], ◌∷◌, ◌++◌, length, drop, get_or, refl, ap, arith}
use Rattle.std.specs.Simd.Lanes.{Each1, chunk, put_chunk}
use Rattle.std.proofs.lemmas.Simd.{Each1-chunk}
use Rattle.xs_base.proofs.ByFours.{ReadsFours, read-append, length-read, read-drop, read-chunk, read_of_chunk}
use Rattle.xs_pixel.specs.Channels.{Channels, channels}
use Rattle.xs_pixel.specs.PixelRows.{pixels}

-- fewer than four bytes are no pixel
pub pixels-short : (xs : List ℕ) → length xs < 4 → pixels xs ≡ []
pixels-short [] few = refl
pixels-short (r ∷ []) few = refl
pixels-short (r ∷ g ∷ []) few = refl
pixels-short (r ∷ g ∷ b ∷ []) few = refl
pixels-short (r ∷ g ∷ b ∷ m ∷ xs) few = absurd (omega arith)

by_fours : ReadsFours channels pixels
by_fours = record { short = pixels-short; four = λ r g b m xs. refl }

-- whole pixels before more bytes
pub pixels-append : (n : ℕ) (xs ys : List ℕ) → length xs ≡ 4 * n → pixels (xs ++ ys) ≡ pixels xs ++ pixels ys
pixels-append = read-append channels pixels by_fours

pub length-pixels : (n : ℕ) (xs : List ℕ) → length xs ≡ 4 * n → length (pixels xs) ≡ n
length-pixels = length-read channels pixels by_fours

pub pixels-drop : (i k : ℕ) (xs : List ℕ) → i ≡ 4 * k → pixels (drop i xs) ≡ drop k (pixels xs)
pixels-drop = read-drop channels pixels by_fours

pub pixels-chunk : (i k m n : ℕ) (xs : List ℕ) → i ≡ 4 * k → m ≡ 4 * n → pixels (chunk i m xs) ≡ chunk k n (pixels xs)
pixels-chunk = read-chunk channels pixels by_fours

-- what a row holds after whole pixels were written over it
pub pixels-put_chunk : (i k n : ℕ) (xs ys : List ℕ) → i ≡ 4 * k → length ys ≡ 4 * n → pixels (put_chunk i xs ys) ≡ put_chunk k (pixels xs) (pixels ys)
pixels-put_chunk i k n [] ys at whole = refl
pixels-put_chunk zero zero n (x ∷ []) [] at whole = refl
pixels-put_chunk zero zero n (x ∷ y ∷ []) [] at whole = refl
pixels-put_chunk zero zero n (x ∷ y ∷ z ∷ []) [] at whole = refl
pixels-put_chunk zero zero n (x ∷ y ∷ z ∷ w ∷ xs) [] at whole = refl
pixels-put_chunk zero (suc k) n xs ys at whole = absurd (omega arith)
pixels-put_chunk zero zero n xs (r ∷ []) at whole = absurd (omega arith)
pixels-put_chunk zero zero n xs (r ∷ g ∷ []) at whole = absurd (omega arith)
pixels-put_chunk zero zero n xs (r ∷ g ∷ b ∷ []) at whole = absurd (omega arith)
pixels-put_chunk zero zero n (x ∷ []) (r ∷ g ∷ b ∷ m ∷ ys) at whole = refl
pixels-put_chunk zero zero n (x ∷ y ∷ []) (r ∷ g ∷ b ∷ m ∷ ys) at whole = refl
pixels-put_chunk zero zero n (x ∷ y ∷ z ∷ []) (r ∷ g ∷ b ∷ m ∷ ys) at whole = refl
pixels-put_chunk zero zero n (x ∷ y ∷ z ∷ w ∷ xs) (r ∷ g ∷ b ∷ m ∷ ys) at whole =
    ap (λ ps. channels r g b m ∷ ps) (pixels-put_chunk zero zero (n - 1) xs ys refl (omega arith))
pixels-put_chunk (suc zero) k n xs ys at whole = absurd (omega arith)
pixels-put_chunk (suc (suc zero)) k n xs ys at whole = absurd (omega arith)
pixels-put_chunk (suc (suc (suc zero))) k n xs ys at whole = absurd (omega arith)
pixels-put_chunk (suc (suc (suc (suc i)))) zero n xs ys at whole = absurd (omega arith)
pixels-put_chunk (suc (suc (suc (suc i)))) (suc k) n (x ∷ []) ys at whole = refl
pixels-put_chunk (suc (suc (suc (suc i)))) (suc k) n (x ∷ y ∷ []) ys at whole = refl
pixels-put_chunk (suc (suc (suc (suc i)))) (suc k) n (x ∷ y ∷ z ∷ []) ys at whole = refl
pixels-put_chunk (suc (suc (suc (suc i)))) (suc k) n (x ∷ y ∷ z ∷ w ∷ xs) ys at whole =
    ap (λ ps. channels x y z w ∷ ps) (pixels-put_chunk i k n xs ys (omega arith) whole)

-- one pixel, from its four bytes
pub pixel_of_chunk : (i k : ℕ) (xs : List ℕ) (d : Channels) → i ≡ 4 * k → i + 4 ≤ length xs → pixels (chunk i 4 xs) ≡ get_or (pixels xs) k d ∷ []
pixel_of_chunk = read_of_chunk channels pixels by_fours

-- what holds of each pixel of a row holds of each in a part
pub chunk_of_pixels : (P : Channels → Type 0) (i k m n : ℕ) (xs : List ℕ) → i ≡ 4 * k → m ≡ 4 * n → Each1 P (pixels xs) → Each1 P (pixels (chunk i m xs))
chunk_of_pixels P i k m n xs at long each = rw (pixels-chunk i k m n xs at long) (Each1-chunk P k n (pixels xs) each)
