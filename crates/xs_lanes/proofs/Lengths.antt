-- How many pixels rows have, and that what is made of pixels is pixels.
use Rattle.std.proofs.Common.{◌≡◌, ℕ, ◌*◌, ◌/◌, ◌%◌, List, [], ◌∷◌, length, map, arith}
use Rattle.std.specs.Simd.Lanes.{Each1, zip2}
use Rattle.std.proofs.lemmas.Simd.{length-zip2, Each1-zip2, Each2-of}
use Rattle.xs_pixel.specs.Channels.{Channels, IsPixel}
use Rattle.xs_pixel.specs.PixelRows.{pixels}
use Rattle.xs_pixel.proofs.PixelRowLemmas.{length-pixels}
use Rattle.xs_cm32.specs.WordRows.{words}
use Rattle.xs_cm32.proofs.WordRows.{length-words}
use Rattle.std.proofs.lemmas.List.{length-map}

length-pixels-quarter : (row : List ℕ) → length row % 4 ≡ 0 → length (pixels row) ≡ length row / 4
length-pixels-quarter row whole = length-pixels (length row / 4) row (omega arith)

pub same_length : (u d : List ℕ) → length u % 4 ≡ 0 → length d ≡ length u → length (pixels u) ≡ length (pixels d)
same_length u d whole same =
    omega (arith, length-pixels-quarter u whole, length-pixels-quarter d (omega arith))

pub length-results :
    (op : Channels → Channels → Channels) (u d : List ℕ) → length u % 4 ≡ 0 → length d ≡ length u
    → length u ≡ 4 * length (zip2 op (pixels u) (pixels d))
length-results op u d whole same =
    let count = length-zip2 op (pixels u) (pixels d) (same_length u d whole same) in
    omega (arith, count, length-pixels-quarter u whole)

pub length-colours : (f : ℕ → Channels) (row : List ℕ) → length row % 4 ≡ 0 → length row ≡ 4 * length (map f (words row))
length-colours f row whole =
    let count = length-words (length row / 4) row (omega arith) in omega (arith, length-map (words row) f, count)

-- what holds of each colour holds of the colours of a row of words
pub Each1-colours : (P : Channels → Type 0) (f : ℕ → Channels) → ((w : ℕ) → P (f w)) → (ws : List ℕ) → Each1 P (map f ws)
Each1-colours P f each [] = tt
Each1-colours P f each (w ∷ ws) = (each w, Each1-colours P f each ws)

-- the results of an operation on pixels are pixels
pub Each1-results :
    (op : Channels → Channels → Channels) → ((u d : Channels) → IsPixel u → IsPixel d → IsPixel (op u d))
    → (us vs : List Channels) → Each1 IsPixel us → Each1 IsPixel vs → Each1 IsPixel (zip2 op us vs)
Each1-results op keeps us vs first second =
    Each1-zip2 op IsPixel us vs (Each2-of IsPixel IsPixel (λ u d. IsPixel (op u d)) keeps us vs first second)
