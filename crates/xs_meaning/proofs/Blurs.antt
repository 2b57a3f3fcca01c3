-- Blurs: of pixels, of a clear image, of a moved one
use Rattle.std.proofs.Common.{ℕ, ◌+◌, ◌*◌, ◌/◌, ◌-ℤ◌, ◌≡◌, ◌≤◌, ◌<◌, refl, ap, ◌∙◌, subst, List, [], ◌∷◌, map, sum_by, length, pos, ap₂, arith}
use Rattle.std.proofs.lemmas.List.Sums.{sum_by-le, sum_by-le-sum_by}
use Rattle.std.proofs.lemmas.List.FromFn.{length-map-range_with_len}
use Rattle.std.proofs.lemmas.Int.{ints}
use Rattle.std.proofs.lemmas.List.{length-map}
use Rattle.std.proofs.Math.Nat.{zero-div, div-le_of_le-mul, le-div_iff_mul-le, div-mul-le_self, mul-pos, le_trans}
use mathlib.Core.Path.{fun_ext}
use Rattle.xs_pixel.specs.Channels.{Channels, clear, IsPixel}
use Rattle.xs_pixel.specs.Points.{Point, point, plus, minus, span, square}
use Rattle.xs_pixel.specs.Images.{Image, mean_of, blurred}
use Rattle.xs_meaning.proofs.Lists.{length-flat_map_even}

sum_by-zero : {X : Type 0} (xs : List X) → sum_by (λ x. 0) xs ≡ 0
sum_by-zero [] = refl
sum_by-zero (x ∷ xs) = sum_by-zero xs

-- a blur of what is clear everywhere is clear
pub blurred-clear : (n : ℕ) (p : Point) → blurred n (λ q. clear) p ≡ clear
unfolding blurred
blurred-clear n p = rw (sum_by-zero, zero-div)

-- a blur of a moved image is the moved blur
pub blurred-moved : (n : ℕ) (image : Image) (o p : Point) → blurred n (λ q. image (minus q o)) p ≡ blurred n image (minus p o)
unfolding blurred
blurred-moved n image o p =
    ap (λ (near : Point → Point). blur_by near) (fun_ext near_moved)
  where
    near_moved : (q : Point) → minus (plus p q) o ≡ plus (minus p o) q
    near_moved q = ap₂ point (omega (arith, ints)) (omega (arith, ints))

    blur_by : (Point → Point) → Channels
    blur_by near =
        record {
          r = sum_by (λ q. (image (near q)).r) (square n) / ((2 * n + 1) * (2 * n + 1));
          g = sum_by (λ q. (image (near q)).g) (square n) / ((2 * n + 1) * (2 * n + 1));
          b = sum_by (λ q. (image (near q)).b) (square n) / ((2 * n + 1) * (2 * n + 1));
          m = sum_by (λ q. (image (near q)).m) (square n) / ((2 * n + 1) * (2 * n + 1));
        }

quotient_le_quotient : (a b k : ℕ) → 0 < k → a ≤ b → a / k ≤ b / k
quotient_le_quotient a b k positive less =
    (le-div_iff_mul-le positive).1 (le_trans (div-mul-le_self a k) less)

side_is_positive : (n : ℕ) → 0 < 2 * n + 1
side_is_positive n = omega arith

length-span : (n : ℕ) → length (span n) ≡ 2 * n + 1
length-span n = length-map-range_with_len (λ k. pos k -ℤ pos n) 0 (2 * n + 1)

length-square : (n : ℕ) → length (square n) ≡ (2 * n + 1) * (2 * n + 1)
length-square n =
    length-flat_map_even (λ j. map (λ i. point i j) (span n)) (2 * n + 1)
    (λ j. length-map (span n) (λ i. point i j) ∙ length-span n) (span n)
    ∙ ap (λ m. m * (2 * n + 1)) (length-span n)

mean_le_mean :
    (f g : Channels → ℕ) (n : ℕ) (image : Image) (p : Point)
    → ((q : Point) → f (image q) ≤ g (image q)) → mean_of f n image p ≤ mean_of g n image p
mean_le_mean f g n image p less =
    quotient_le_quotient
    (sum_by (λ q. f (image (plus p q))) (square n)) (sum_by (λ q. g (image (plus p q))) (square n))
    ((2 * n + 1) * (2 * n + 1)) (mul-pos (side_is_positive n) (side_is_positive n))
    (sum_by-le-sum_by (λ q. f (image (plus p q))) (λ q. g (image (plus p q))) (square n) (λ q. less (plus p q)))

mean_le_255 :
    (f : Channels → ℕ) (n : ℕ) (image : Image) (p : Point)
    → ((q : Point) → f (image q) ≤ 255) → mean_of f n image p ≤ 255
mean_le_255 f n image p less =
    div-le_of_le-mul ((2 * n + 1) * (2 * n + 1))
    (subst (λ len. sum_by (λ q. f (image (plus p q))) (square n) ≤ len * 255) (length-square n)
    (sum_by-le (λ q. f (image (plus p q))) 255 (square n) (λ k d lt. less (plus p _))))

-- a blur of pixels is a pixel
pub IsPixel-blurred : (n : ℕ) (image : Image) → ((q : Point) → IsPixel (image q)) → (p : Point) → IsPixel (blurred n image p)
unfolding blurred
IsPixel-blurred n image pixels p =
    record {
      red = mean_le_mean (λ c. c.r) (λ c. c.m) n image p (λ q. (pixels q).red);
      green = mean_le_mean (λ c. c.g) (λ c. c.m) n image p (λ q. (pixels q).green);
      blue = mean_le_mean (λ c. c.b) (λ c. c.m) n image p (λ q. (pixels q).blue);
      top = mean_le_255 (λ c. c.m) n image p (λ q. (pixels q).top);
    }
