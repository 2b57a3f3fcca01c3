-- Sums over the squares of an image, and their means.
use Rattle.std.proofs.Common.{◌≡◌, ℕ, ◌+◌, ◌*◌, ◌/◌, ◌<◌, ◌≤◌, length, sum_by, sym, ap, ap₂, ◌∙◌, inl, inr, arith}
use Rattle.std.specs.Simd.Lanes.{Each1}
use Rattle.std.proofs.Math.Nat.{mul-le-mul_left, div-le_of_le-mul}
use Rattle.std.proofs.lemmas.Bool.{cases_lt}
use Rattle.std.proofs.lemmas.List.{get_or_past}
use Rattle.std.proofs.lemmas.List.Sums.{sum_by-le-sum_by}
use Rattle.std.proofs.lemmas.Simd.{Each1-get_or}
use Rattle.xs_pixel.specs.Channels.{Channels, IsPixel, clear, channels}
use Rattle.xs_pixel.specs.Points.{Point, plus, square}
use Rattle.xs_pixel.specs.Images.{Image, blurred, mean_of}
use Rattle.xs_raster.specs.Bitmap.{Bitmap, place_of}
use Rattle.xs_blur.specs.declared.sums.ChannelSums.{ChannelSums}
use Rattle.xs_blur.specs.Blurs.{image_of}
use Rattle.xs_blur.specs.Totals.{AreParts, IsAtMost, in_square, square_part, total}
use Rattle.xs_blur.proofs.TotalLemmas.{total-none, total-more, total-le, sum-square}

-- ---- parts of a square

part-none : (channel : Channels → ℕ) (image : Image) (p : Point) (n : ℕ) → square_part channel image p n 0 0 ≡ 0
unfolding square_part
part-none channel image p n =
    let rows = total-none (λ j. total (λ i. channel (image (in_square p n j i))) (2 * n + 1)) in
    let more = total-none (λ i. channel (image (in_square p n 0 i))) in
    omega (arith, rows, more)

part-more :
    (channel : Channels → ℕ) (image : Image) (p : Point) (n rows more : ℕ)
    → square_part channel image p n rows (more + 1) ≡ square_part channel image p n rows more + channel (image (in_square p n rows more))
unfolding square_part
part-more channel image p n rows more =
    omega (arith, total-more (λ i. channel (image (in_square p n rows i))) more)

part-line :
    (channel : Channels → ℕ) (image : Image) (p : Point) (n rows : ℕ)
    → square_part channel image p n (rows + 1) 0 ≡ square_part channel image p n rows (2 * n + 1)
unfolding square_part
part-line channel image p n rows =
    let next = total-more (λ j. total (λ i. channel (image (in_square p n j i))) (2 * n + 1)) rows in
    let none = total-none (λ i. channel (image (in_square p n (rows + 1) i))) in
    omega (arith, next, none)

part-all :
    (channel : Channels → ℕ) (image : Image) (p : Point) (n : ℕ)
    → square_part channel image p n (2 * n + 1) 0 ≡ sum_by (λ q. channel (image (plus p q))) (square n)
unfolding square_part
part-all channel image p n =
    let none = total-none (λ i. channel (image (in_square p n (2 * n + 1) i))) in
    let all = sum-square (λ q. channel (image (plus p q))) n in
    omega (arith, none, all)

part-le :
    (channel : Channels → ℕ) (image : Image) (p : Point) (n rows more : ℕ) → ((q : Point) → channel (image q) ≤ 255)
    → square_part channel image p n rows more ≤ rows * ((2 * n + 1) * 255) + more * 255
unfolding square_part
part-le channel image p n rows more small =
    let lines = total-le (λ j. total (λ i. channel (image (in_square p n j i))) (2 * n + 1)) ((2 * n + 1) * 255) rows
    (λ j h. total-le (λ i. channel (image (in_square p n j i))) 255 (2 * n + 1) (λ i h'. small (in_square p n j i))) in
    let next = total-le (λ i. channel (image (in_square p n rows i))) 255 more (λ i h. small (in_square p n rows i)) in
    omega (arith, lines, next)

-- ---- the four channels

pub parts_none : (image : Image) (p : Point) (n : ℕ) → AreParts image p n 0 0 (record { r = 0; g = 0; b = 0; m = 0 })
parts_none image p n = record {
  red = sym (part-none (λ c. c.r) image p n);
  green = sym (part-none (λ c. c.g) image p n);
  blue = sym (part-none (λ c. c.b) image p n);
  matte = sym (part-none (λ c. c.m) image p n);
}

pub parts_more :
    (image : Image) (p : Point) (n rows more : ℕ) (old new : ChannelSums) (pixel : Channels) → AreParts image p n rows more old
    → pixel ≡ image (in_square p n rows more)
    → new.r ≡ old.r + pixel.r → new.g ≡ old.g + pixel.g → new.b ≡ old.b + pixel.b → new.m ≡ old.m + pixel.m
    → AreParts image p n rows (more + 1) new
parts_more image p n rows more old new pixel are is r g b m = record {
  red = omega (arith, are.red, r, ap (λ (c : Channels). c.r) is, part-more (λ c. c.r) image p n rows more);
  green = omega (arith, are.green, g, ap (λ (c : Channels). c.g) is, part-more (λ c. c.g) image p n rows more);
  blue = omega (arith, are.blue, b, ap (λ (c : Channels). c.b) is, part-more (λ c. c.b) image p n rows more);
  matte = omega (arith, are.matte, m, ap (λ (c : Channels). c.m) is, part-more (λ c. c.m) image p n rows more);
}

pub parts_line : (image : Image) (p : Point) (n rows : ℕ) (s : ChannelSums) → AreParts image p n rows (2 * n + 1) s → AreParts image p n (rows + 1) 0 s
parts_line image p n rows s are = record {
  red = are.red ∙ sym (part-line (λ c. c.r) image p n rows);
  green = are.green ∙ sym (part-line (λ c. c.g) image p n rows);
  blue = are.blue ∙ sym (part-line (λ c. c.b) image p n rows);
  matte = are.matte ∙ sym (part-line (λ c. c.m) image p n rows);
}

pub parts_small :
    (image : Image) (p : Point) (n rows more room : ℕ) (s : ChannelSums) → AreParts image p n rows more s → ((q : Point) → IsPixel (image q))
    → rows * ((2 * n + 1) * 255) + more * 255 ≤ room → IsAtMost room s
parts_small image p n rows more room s are pixels fits = record {
  red = omega (arith, are.red, fits, part-le (λ c. c.r) image p n rows more (λ q. omega (arith, (pixels q).red, (pixels q).top)));
  green = omega (arith, are.green, fits, part-le (λ c. c.g) image p n rows more (λ q. omega (arith, (pixels q).green, (pixels q).top)));
  blue = omega (arith, are.blue, fits, part-le (λ c. c.b) image p n rows more (λ q. omega (arith, (pixels q).blue, (pixels q).top)));
  matte = omega (arith, are.matte, fits, part-le (λ c. c.m) image p n rows more (λ q. (pixels q).top));
}

pub parts_all :
    (image : Image) (p : Point) (n count : ℕ) (s : ChannelSums) → AreParts image p n (2 * n + 1) 0 s → count ≡ (2 * n + 1) * (2 * n + 1)
    → channels (s.r / count) (s.g / count) (s.b / count) (s.m / count) ≡ blurred n image p
unfolding blurred
parts_all image p n count s are is =
    let r = ap₂ (λ a b. a / b) (are.red ∙ part-all (λ c. c.r) image p n) is in
    let g = ap₂ (λ a b. a / b) (are.green ∙ part-all (λ c. c.g) image p n) is in
    let b = ap₂ (λ a b. a / b) (are.blue ∙ part-all (λ c. c.b) image p n) is in
    let m = ap₂ (λ a b. a / b) (are.matte ∙ part-all (λ c. c.m) image p n) is in
    same_channels _ _ _ _ _ _ _ _ r g b m
  where
    same_channels :
        (r g b m r' g' b' m' : ℕ) → r ≡ r' → g ≡ g' → b ≡ b' → m ≡ m' → channels r g b m ≡ channels r' g' b' m'
    same_channels r g b m r' g' b' m' red green blue matte = cc

-- ---- means of pixels are pixels

quotient-le : (a b d : ℕ) → 0 < d → a ≤ b → a / d ≤ b / d
quotient-le a b d some le = elim (cases_lt (b / d) (a / d)) [
  | inl below ↦
      let up : b / d + 1 ≤ a / d = omega arith in
      let far : d * (b / d + 1) ≤ d * (a / d) = mul-le-mul_left d up in
      absurd (omega (arith, far))
  | inr above ↦ above
]

mean-le :
    (f g : Channels → ℕ) (n : ℕ) (image : Image) (p : Point) → ((q : Point) → f (image q) ≤ g (image q))
    → mean_of f n image p ≤ mean_of g n image p
mean-le f g n image p less =
    quotient-le (sum_by (λ q. f (image (plus p q))) (square n)) (sum_by (λ q. g (image (plus p q))) (square n)) ((2 * n + 1) * (2 * n + 1)) (omega arith)
    (sum_by-le-sum_by (λ q. f (image (plus p q))) (λ q. g (image (plus p q))) (square n) (λ q. less (plus p q)))

pub IsPixel-blurred : (n : ℕ) (image : Image) (p : Point) → ((q : Point) → IsPixel (image q)) → IsPixel (blurred n image p)
unfolding blurred
IsPixel-blurred n image p pixels = record {
  red = mean-le (λ c. c.r) (λ c. c.m) n image p (λ q. (pixels q).red);
  green = mean-le (λ c. c.g) (λ c. c.m) n image p (λ q. (pixels q).green);
  blue = mean-le (λ c. c.b) (λ c. c.m) n image p (λ q. (pixels q).blue);
  top =
      let all = part-all (λ c. c.m) image p n in
      let small = part-le (λ c. c.m) image p n (2 * n + 1) 0 (λ q. (pixels q).top) in
      div-le_of_le-mul ((2 * n + 1) * (2 * n + 1)) (omega (arith, all, small));
}

-- the image of a raster has pixels alone
pub IsPixel-image : (r : Bitmap) → Each1 IsPixel r.pixels → (q : Point) → IsPixel (image_of r q)
IsPixel-image r pixels q =
    let at = place_of r.area q.x q.y in
    elim (cases_lt at (length r.pixels)) [
      | inl below ↦ Each1-get_or IsPixel r.pixels at clear below pixels
      | inr past ↦
          rw (get_or_past r.pixels at clear past)
          (record { red = omega arith; green = omega arith; blue = omega arith; top = omega arith })
    ]
