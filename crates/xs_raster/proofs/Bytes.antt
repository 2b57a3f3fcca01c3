-- Laws of bytes as pixels and back.
use Rattle.std.proofs.Common.{◌≡◌, ℕ, zero, suc, ◌-◌, ◌*◌, List, [], ◌∷◌, length, replicate, refl, ap, arith}
use Rattle.xs_pixel.specs.Channels.{IsPixel, clear}
use Rattle.xs_pixel.specs.PixelRows.{pixels}
use Rattle.xs_raster.specs.Bitmap.{bytes_of}

pub bytes_of-pixels : (n : ℕ) (xs : List ℕ) → length xs ≡ 4 * n → bytes_of (pixels xs) ≡ xs
bytes_of-pixels n [] whole = refl
bytes_of-pixels n (r ∷ []) whole = absurd (omega arith)
bytes_of-pixels n (r ∷ g ∷ []) whole = absurd (omega arith)
bytes_of-pixels n (r ∷ g ∷ b ∷ []) whole = absurd (omega arith)
bytes_of-pixels n (r ∷ g ∷ b ∷ m ∷ xs) whole = ap (λ rest. r ∷ g ∷ b ∷ m ∷ rest) (bytes_of-pixels (n - 1) xs (omega arith))

-- bytes that are all 0 are clear pixels
pub pixels-replicate : (m n : ℕ) → m ≡ 4 * n → pixels (replicate m 0) ≡ replicate n clear
pixels-replicate zero zero e = refl
pixels-replicate zero (suc n) e = absurd (omega arith)
pixels-replicate (suc zero) n e = absurd (omega arith)
pixels-replicate (suc (suc zero)) n e = absurd (omega arith)
pixels-replicate (suc (suc (suc zero))) n e = absurd (omega arith)
pixels-replicate (suc (suc (suc (suc m)))) zero e = absurd (omega arith)
pixels-replicate (suc (suc (suc (suc m)))) (suc n) e = ap (λ ps. clear ∷ ps) (pixels-replicate m n (omega arith))

pub clear_is_pixel : IsPixel clear
clear_is_pixel = record { red = omega arith; green = omega arith; blue = omega arith; top = omega arith }
