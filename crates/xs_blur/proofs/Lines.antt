-- The sums of the channels of columns, and the lines of their means.
use Rattle.std.proofs.Common.{◌≡◌, ℕ, ◌+◌, ◌*◌, ◌/◌, ◌<◌, ◌≤◌, List, [], ◌∷◌, zero, suc, length, get_or, sym, ap, ap₂, ◌∙◌, subst, ◌-◌, arith, inl, inr}
use Rattle.std.specs.Simd.Lanes.{put_chunk}
use Rattle.std.proofs.lemmas.Bool.{cases_lt}
use Rattle.std.proofs.lemmas.Simd.{get_or-put_chunk_below, get_or-put_chunk_at}
use Rattle.xs_blur.specs.declared.sums.ChannelSums.{ChannelSums}
use Rattle.xs_blur.specs.Totals.{AreMeans, AreSums, Gains, Has, IsAtMost, window}
use Rattle.xs_blur.proofs.TotalLemmas.{window-none, window-more, window-first, window-le}

pub sums_none : (columns : List ℕ) (x : ℕ) → AreSums columns x 0 (record { r = 0; g = 0; b = 0; m = 0 })
sums_none columns x = record {
  red = sym (window-none columns x 0);
  green = sym (window-none columns x 1);
  blue = sym (window-none columns x 2);
  matte = sym (window-none columns x 3);
}

-- one column more
pub sums_with :
    (columns : List ℕ) (x k at : ℕ) (old new : ChannelSums) → AreSums columns x k old → at ≡ x + k → Gains columns at old new
    → AreSums columns x (k + 1) new
sums_with columns x k at old new are there gains =
    let first : get_or columns (4 * at) 0 ≡ get_or columns (4 * (x + k) + 0) 0 = ap (λ (i : ℕ). get_or columns i 0) (omega arith) in
    record {
      red = omega (arith, are.red, gains.red, first, window-more columns x k 0);
      green = omega (arith, are.green, gains.green, ap (λ (i : ℕ). get_or columns (4 * i + 1) 0) there, window-more columns x k 1);
      blue = omega (arith, are.blue, gains.blue, ap (λ (i : ℕ). get_or columns (4 * i + 2) 0) there, window-more columns x k 2);
      matte = omega (arith, are.matte, gains.matte, ap (λ (i : ℕ). get_or columns (4 * i + 3) 0) there, window-more columns x k 3);
    }

-- the last column of a square
pub sums_all :
    (columns : List ℕ) (x side at : ℕ) (old new : ChannelSums) → 1 ≤ side → AreSums columns x (side - 1) old → at ≡ x + (side - 1)
    → Gains columns at old new → AreSums columns x side new
sums_all columns x side at old new some are there gains =
    let all : side - 1 + 1 ≡ side = omega arith in
    subst (λ (k : ℕ). AreSums columns x k new) all (sums_with columns x (side - 1) at old new are there gains)

-- one column less
pub sums_without :
    (columns : List ℕ) (x side : ℕ) (old new : ChannelSums) → 1 ≤ side → AreSums columns x side old → Gains columns x new old
    → AreSums columns (x + 1) (side - 1) new
sums_without columns x side old new some are gains =
    let all : side ≡ side - 1 + 1 = omega arith in
    let k = side - 1 in
    let more = subst (λ (k : ℕ). AreSums columns x k old) all are in
    let first : get_or columns (4 * x) 0 ≡ get_or columns (4 * x + 0) 0 = ap (λ (i : ℕ). get_or columns i 0) (omega arith) in
    record {
      red = omega (arith, more.red, gains.red, first, window-first columns x k 0);
      green = omega (arith, more.green, gains.green, window-first columns x k 1);
      blue = omega (arith, more.blue, gains.blue, window-first columns x k 2);
      matte = omega (arith, more.matte, gains.matte, window-first columns x k 3);
    }

-- the first column is part of the sums
pub sums_had : (columns : List ℕ) (x side : ℕ) (s : ChannelSums) → 1 ≤ side → AreSums columns x side s → Has columns x s
sums_had columns x side s some are =
    let all : side ≡ side - 1 + 1 = omega arith in
    let k = side - 1 in
    let more = subst (λ (k : ℕ). AreSums columns x k s) all are in
    let first : get_or columns (4 * x) 0 ≡ get_or columns (4 * x + 0) 0 = ap (λ (i : ℕ). get_or columns i 0) (omega arith) in
    record {
      red = omega (arith, more.red, first, window-first columns x k 0);
      green = omega (arith, more.green, window-first columns x k 1);
      blue = omega (arith, more.blue, window-first columns x k 2);
      matte = omega (arith, more.matte, window-first columns x k 3);
    }

-- sums of few columns are small
pub sums_small :
    (columns : List ℕ) (x k most room : ℕ) (s : ChannelSums) → AreSums columns x k s → ((i : ℕ) → get_or columns i 0 ≤ most)
    → k * most ≤ room → IsAtMost room s
sums_small columns x k most room s are small fits = record {
  red = omega (arith, are.red, window-le columns x k 0 most small);
  green = omega (arith, are.green, window-le columns x k 1 most small);
  blue = omega (arith, are.blue, window-le columns x k 2 most small);
  matte = omega (arith, are.matte, window-le columns x k 3 most small);
}

-- the four means of one more pixel
four_means :
    (columns : List ℕ) (x side count : ℕ) (s : ChannelSums) → AreSums columns x side s → count ≡ side * side → (channel : ℕ) → channel < 4
    → get_or (s.r / count ∷ s.g / count ∷ s.b / count ∷ s.m / count ∷ []) channel 0 ≡ window columns x side channel / (side * side)
four_means columns x side count s are square zero below = ap₂ (λ a b. a / b) are.red square
four_means columns x side count s are square (suc zero) below = ap₂ (λ a b. a / b) are.green square
four_means columns x side count s are square (suc (suc zero)) below = ap₂ (λ a b. a / b) are.blue square
four_means columns x side count s are square (suc (suc (suc zero))) below = ap₂ (λ a b. a / b) are.matte square
four_means columns x side count s are square (suc (suc (suc (suc channel)))) below = absurd (omega arith)

pub means_more :
    (columns line new : List ℕ) (x side count : ℕ) (s : ChannelSums) → AreMeans columns side line x → AreSums columns x side s
    → count ≡ side * side → 4 * x + 4 ≤ length line
    → new ≡ put_chunk (4 * x) line (s.r / count ∷ s.g / count ∷ s.b / count ∷ s.m / count ∷ [])
    → AreMeans columns side new (x + 1)
means_more columns line new x side count s before are square there is = λ z channel below within.
    let means = s.r / count ∷ s.g / count ∷ s.b / count ∷ s.m / count ∷ [] in
    ap (λ (l : List ℕ). get_or l (4 * z + channel) 0) is
    ∙ elim (cases_lt z x) [
      | inl earlier ↦ get_or-put_chunk_below (4 * x) line means (4 * z + channel) 0 (omega arith) ∙ before z channel below earlier
      | inr later ↦
          let same : z ≡ x = omega arith in
          rw same (get_or-put_chunk_at (4 * x) line means channel 0 below there ∙ four_means columns x side count s are square channel below)
    ]
