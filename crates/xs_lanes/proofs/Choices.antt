-- What the lanes of a comparison choose: the lesser, the greater, sums and differences that stop at a bound.
use Rattle.std.proofs.Common.{◌≡◌, ℕ, ◌+◌, ◌-◌, ◌%◌, ◌^◌, not, cond, eqb, ltb, min, max, List, [], ◌∷◌, length, map, refl, arith}
use Rattle.std.specs.Simd.Lanes.{Each1, zip2}
use lib.Lanes.{sel_l, mask_l}
use mir.Syntax.{w8}
use mir.Val.{Fits}
use Rattle.std.proofs.lemmas.Bool.Decides.{nat_tests}

lesser_is : (x y : ℕ) → cond (ltb x y) x y ≡ min x y
lesser_is x y = grind (arith, nat_tests)

greater_is : (x y : ℕ) → cond (ltb x y) y x ≡ max x y
greater_is x y = grind (arith, nat_tests)

pub lesser_chosen : (xs ys : List ℕ) → sel_l (zip2 ltb xs ys) xs ys ≡ zip2 min xs ys
lesser_chosen [] ys = refl
lesser_chosen (x ∷ xs) [] = refl
lesser_chosen (x ∷ xs) (y ∷ ys) = let one = lesser_is x y in let later = lesser_chosen xs ys in cc

pub greater_chosen : (xs ys : List ℕ) → sel_l (zip2 ltb xs ys) ys xs ≡ zip2 max xs ys
greater_chosen [] ys = refl
greater_chosen (x ∷ xs) [] = refl
greater_chosen (x ∷ xs) (y ∷ ys) = let one = greater_is x y in let later = greater_chosen xs ys in cc

-- a sum with at most what the first lacks of 255
pub capped_sums_are :
    (xs ys : List ℕ) → Each1 (Fits w8) xs
    → zip2 (λ a b. (a + b) % 2 ^ 8) xs (zip2 min ys (map (λ a. 2 ^ 8 - 1 - a) xs)) ≡ zip2 (λ a b. min 255 (a + b)) xs ys
capped_sums_are [] ys fit = refl
capped_sums_are (x ∷ xs) [] fit = refl
capped_sums_are (x ∷ xs) (y ∷ ys) fit =
    let one : (x + min y (2 ^ 8 - 1 - x)) % 2 ^ 8 ≡ min 255 (x + y) = omega (arith, fit.0) in
    let later = capped_sums_are xs ys fit.1 in
    cc

-- a difference from at least what is taken away
pub differences_are :
    (xs ys : List ℕ) → Each1 (Fits w8) xs → Each1 (Fits w8) ys
    → zip2 (λ a b. (a + (2 ^ 8 - b)) % 2 ^ 8) (zip2 max xs ys) ys ≡ zip2 (λ a b. a - b) xs ys
differences_are [] ys left right = refl
differences_are (x ∷ xs) [] left right = refl
differences_are (x ∷ xs) (y ∷ ys) left right =
    let one : (max x y + (2 ^ 8 - y)) % 2 ^ 8 ≡ x - y = omega (arith, left.0, right.0) in
    let later = differences_are xs ys left.1 right.1 in
    cc

-- no bit for a lane that differs
pub none_differs : (v : ℕ) (xs : List ℕ) → mask_l (map (λ x. not (eqb x v)) xs) ≡ 0 → Each1 (λ x. x ≡ v) xs
none_differs v [] none = tt
none_differs v (x ∷ xs) none =
    let bit : cond {A = ℕ} (not (eqb x v)) 1 0 ≡ 0 = omega (arith, none) in
    (grind (arith, nat_tests), none_differs v xs (omega (arith, none)))

-- no bit for a lane in which two blocks differ
pub none_differ : (xs ys : List ℕ) → length xs ≡ length ys → mask_l (zip2 (λ x y. not (eqb x y)) xs ys) ≡ 0 → xs ≡ ys
none_differ [] [] same none = refl
none_differ [] (y ∷ ys) same none = absurd (omega arith)
none_differ (x ∷ xs) [] same none = absurd (omega arith)
none_differ (x ∷ xs) (y ∷ ys) same none =
    let bit : cond {A = ℕ} (not (eqb x y)) 1 0 ≡ 0 = omega (arith, none) in
    let one : x ≡ y = grind (arith, nat_tests) in
    let later = none_differ xs ys (omega arith) (omega (arith, none)) in
    cc
