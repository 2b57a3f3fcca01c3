use Rattle.std.proofs.Common.{◌≡◌, ℕ, ◌+◌, ◌*◌, ◌/◌, ◌%◌, ◌^◌, ◌<◌, ◌≤◌, List, [], ◌∷◌, length, map, replicate, refl, sym, ap, subst, arith}
use Rattle.std.specs.Simd.Lanes.{Each1, zip2}
use Rattle.std.proofs.Math.Nat.{mul-le-mul, mul-le-mul_left, mul-le-mul_right}
use Rattle.std.proofs.lemmas.Simd.{Each1-zip2, Each2-of}
use mir.Syntax.{w8}
use mir.Val.{Fits}
use Rattle.xs_pixel.specs.Operations.{product}

-- a product of two bytes without a division, in 16 bits
product_is : (x y : ℕ) → x ≤ 255 → y ≤ 255 → ((x * y % 2 ^ 16 + 128) % 2 ^ 16 + (x * y % 2 ^ 16 + 128) % 2 ^ 16 / 2 ^ 8) % 2 ^ 16 / 2 ^ 8 ≡ product x y
unfolding product
product_is x y left right =
    let most : x * y ≤ 255 * y = mul-le-mul_right y left in
    let more : 255 * y ≤ 255 * 255 = mul-le-mul_left 255 right in
    omega (arith, most, more)

product_below : (x y : ℕ) → x ≤ 255 → y ≤ 255 → product x y < 2 ^ 8
unfolding product
product_below x y left right = omega (arith, mul-le-mul left right)

-- the same of each two lanes, as the code computes it
abbrev products_made : ℕ → List ℕ → List ℕ → List ℕ
products_made n xs ys =
    let sums = zip2 (λ a b. (a + b) % 2 ^ 16) (zip2 (λ a b. a * b % 2 ^ 16) (map (λ a. a) xs) (map (λ a. a) ys)) (replicate n 128) in
    zip2 (λ a b. a / 2 ^ b) (zip2 (λ a b. (a + b) % 2 ^ 16) sums (zip2 (λ a b. a / 2 ^ b) sums (replicate n 8))) (replicate n 8)

products_by_length : (xs ys : List ℕ) → Each1 (Fits w8) xs → Each1 (Fits w8) ys → products_made (length xs) xs ys ≡ zip2 product xs ys
products_by_length [] ys left right = refl
products_by_length (x ∷ xs) [] left right = refl
products_by_length (x ∷ xs) (y ∷ ys) left right =
    let one = product_is x y (omega (arith, left.0)) (omega (arith, right.0)) in
    rw one (ap (λ ps. product x y ∷ ps) (products_by_length xs ys left.1 right.1))

pub products_are : (xs ys : List ℕ) → length xs ≡ 16 → Each1 (Fits w8) xs → Each1 (Fits w8) ys → products_made 16 xs ys ≡ zip2 product xs ys
products_are xs ys long left right = subst (λ (n : ℕ). products_made n xs ys ≡ zip2 product xs ys) long (products_by_length xs ys left right)

-- the products fit a byte, as the last cast asks
pub products_fit : (xs ys : List ℕ) → length xs ≡ 16 → Each1 (Fits w8) xs → Each1 (Fits w8) ys → Each1 (Fits w8) (products_made 16 xs ys)
products_fit xs ys long left right =
    let small : (x y : ℕ) → Fits w8 x → Fits w8 y → Fits w8 (product x y) =
    λ x y fx fy. record { fits = product_below x y (omega (arith, fx)) (omega (arith, fy)) }
    in
    let all : Each1 (Fits w8) (zip2 product xs ys) =
    Each1-zip2 product (Fits w8) xs ys (Each2-of (Fits w8) (Fits w8) (λ x y. Fits w8 (product x y)) small xs ys left right)
    in
    subst (λ (zs : List ℕ). Each1 (Fits w8) zs) (sym (products_are xs ys long left right)) all
