-- Frames of different rows have different names.
use Rattle.std.proofs.Common.{◌≡◌, ℕ, ◌+◌, ◌/◌, ◌%◌, ◌<◌, ◌≤◌, List, ◌∷◌, ◌++◌, codes, sym, ◌∙◌, append_assoc, arith}
use Rattle.std.proofs.lemmas.Fmt.{decimal_digit}
use Rattle.std.proofs.lemmas.List.{append_cancel_left}
use Rattle.xs_top.specs.Frames.{frame_name_of}

-- what comes behind the base
abbrev tail : ℕ → List ℕ
tail row = 46 ∷ (48 + row / 1000) ∷ (48 + row / 100 % 10) ∷ (48 + row / 10 % 10) ∷ (48 + row % 10) ∷ codes ".xfr"

name_is : (base : List ℕ) (row : ℕ) → row ≤ 9999 → frame_name_of base row ≡ base ++ tail row
unfolding frame_name_of
name_is base row few =
    let thousands : row / 1000 < 10 = omega arith in
    let hundreds : row / 100 % 10 < 10 = omega arith in
    let tens : row / 10 % 10 < 10 = omega arith in
    let ones : row % 10 < 10 = omega arith in
    rw (decimal_digit (row / 1000) thousands, decimal_digit (row / 100 % 10) hundreds, decimal_digit (row / 10 % 10) tens, decimal_digit (row % 10) ones)
    (simp append_assoc)

same_digits : (row other : ℕ) → row / 1000 ≡ other / 1000 → row / 100 % 10 ≡ other / 100 % 10 → row / 10 % 10 ≡ other / 10 % 10
    → row % 10 ≡ other % 10 → row ≡ other
same_digits row other thousands hundreds tens ones = omega arith

same_row : (row other : ℕ) → tail row ≡ tail other → row ≡ other
same_row row other e =
    let thousands : 48 + row / 1000 ≡ 48 + other / 1000 = cc in
    let hundreds : 48 + row / 100 % 10 ≡ 48 + other / 100 % 10 = cc in
    let tens : 48 + row / 10 % 10 ≡ 48 + other / 10 % 10 = cc in
    let ones : 48 + row % 10 ≡ 48 + other % 10 = cc in
    same_digits row other (omega arith) (omega arith) (omega arith) (omega arith)

pub name_of_one_row : (base : List ℕ) (row other : ℕ) → row ≤ 9999 → other ≤ 9999 → frame_name_of base row ≡ frame_name_of base other → row ≡ other
name_of_one_row base row other few few_other e =
    same_row row other (append_cancel_left base _ _ (sym (name_is base row few) ∙ (e ∙ name_is base other few_other)))
