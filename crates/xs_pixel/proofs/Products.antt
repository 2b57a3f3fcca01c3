use Rattle.std.proofs.Common.{ℕ, ◌+◌, ◌-◌, ◌*◌, ◌≤◌, ◌≡◌, arith}
use Rattle.std.proofs.Math.Nat.{mul-le-mul, mul-le-mul_left, mul-le-mul_right}
use Rattle.xs_pixel.specs.Operations.{product}

-- a product of two parts of 255 is at most the first
pub product_le_left : (x y : ℕ) → y ≤ 255 → product x y ≤ x
unfolding product
product_le_left x y within = let most : x * y ≤ x * 255 = mul-le-mul_left x within in omega (arith, most)

-- and at most the second
pub product_le_right : (x y : ℕ) → x ≤ 255 → product x y ≤ y
unfolding product
product_le_right x y within = let most : x * y ≤ 255 * y = mul-le-mul_right y within in omega (arith, most)

-- a product grows with both parts
pub product_le_both : (x x' y y' : ℕ) → x ≤ x' → y ≤ y' → product x y ≤ product x' y'
unfolding product
product_le_both x x' y y' first second = let most : x * y ≤ x' * y' = mul-le-mul first second in omega (arith, most)

-- a product grows with its first part
pub product_le_product : (x x' y : ℕ) → x ≤ x' → product x y ≤ product x' y
product_le_product x x' y first = product_le_both x x' y y first (omega arith)

-- what lies over the rest and what shows through stay within the opaque matte
pub over_le_255 : (u d : ℕ) → u ≤ 255 → d ≤ 255 → u + product d (255 - u) ≤ 255
unfolding product
over_le_255 u d upper lower =
    let most : d * (255 - u) ≤ 255 * (255 - u) = mul-le-mul_right (255 - u) lower in omega (arith, most)

pub product-zero_left : (y : ℕ) → product 0 y ≡ 0
unfolding product
product-zero_left y = omega arith

pub product-zero_right : (x : ℕ) → product x 0 ≡ 0
unfolding product
product-zero_right x = omega arith

-- a part of 255 changes nothing
pub product-opaque : (x : ℕ) → product x 255 ≡ x
unfolding product
product-opaque x = omega arith

-- the product is the whole number nearest to x * y parts of 255

pub product_is_at_most : (x y : ℕ) → 255 * product x y ≤ x * y + 127
unfolding product
product_is_at_most x y = omega arith

pub product_is_at_least : (x y : ℕ) → x * y ≤ 255 * product x y + 127
unfolding product
product_is_at_least x y = omega arith

pub nearest_is_product :
    (x y n : ℕ) → 255 * n ≤ x * y + 127 → x * y ≤ 255 * n + 127 → n ≡ product x y
unfolding product
nearest_is_product x y n above below = omega arith
