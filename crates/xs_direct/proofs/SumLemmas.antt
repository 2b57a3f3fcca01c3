-- Sums over the squares of blurs
use Rattle.std.proofs.Common.{ℕ, ◌≡◌, ◌+◌, ◌*◌, ◌≤◌, pos, ◌-ℤ◌, List, [], ◌∷◌, ◌++◌, map, flat_map, map-id, append-nil, refl, sym, ap, ◌∙◌, subst, arith}
use Rattle.std.specs.List.{range_with_len}
use Rattle.std.proofs.lemmas.List.Sums.{sum_by_push, sum_by-append}
use Rattle.std.proofs.lemmas.List.FromFn.{map-range_with_len_more}
use Rattle.std.proofs.lemmas.List.Concat.{flat_map-append}
use Rattle.std.proofs.lemmas.List.Folds.{flat_map-map}
use Rattle.std.proofs.Math.Nat.{mul-le-mul_left}
use Rattle.std.proofs.lemmas.Simd.{map-map}
use mathlib.Core.Path.{ap₂, fun_ext}
use Rattle.xs_pixel.specs.Channels.{Channels, clear}
use Rattle.xs_pixel.specs.Points.{Point, point, plus, span, square}
use Rattle.xs_pixel.specs.Images.{Image, blurred}
use Rattle.xs_direct.specs.Sums.{AreSums, added, divided, sums_at, line_of, lines_of}

pub AreSums-more : (most more : ℕ) (c : Channels) → most ≤ more → AreSums most c → AreSums more c
AreSums-more most more c less are =
    record { red = are.red; green = are.green; blue = are.blue; top = omega (arith, are.top) }

pub AreSums-clear : (most : ℕ) → AreSums most clear
AreSums-clear most = record { red = omega arith; green = omega arith; blue = omega arith; top = omega arith }

pub AreSums-added :
    (most others more : ℕ) (c d new : Channels) → AreSums most c → AreSums others d → most + others ≤ more
    → new ≡ added c d → AreSums more new
AreSums-added most others more c d new first second room is =
    let sums : AreSums more (added c d) = record {
      red = omega (arith, first.red, second.red);
      green = omega (arith, first.green, second.green);
      blue = omega (arith, first.blue, second.blue);
      top = omega (arith, first.top, second.top);
    } in
    subst (AreSums more) (sym is) sums

sums_at-push :
    (image : Image) (p q : Point) (qs : List Point)
    → sums_at image p (qs ++ q ∷ []) ≡ added (sums_at image p qs) (image (plus p q))
unfolding sums_at
sums_at-push image p q qs =
    rw (
      sum_by_push (λ q. (image (plus p q)).r) qs q,
      sum_by_push (λ q. (image (plus p q)).g) qs q,
      sum_by_push (λ q. (image (plus p q)).b) qs q,
      sum_by_push (λ q. (image (plus p q)).m) qs q,
    ) refl

sums_at-append :
    (image : Image) (p : Point) (qs rs : List Point)
    → sums_at image p (qs ++ rs) ≡ added (sums_at image p qs) (sums_at image p rs)
unfolding sums_at
sums_at-append image p qs rs =
    rw (
      sum_by-append (λ q. (image (plus p q)).r) qs rs,
      sum_by-append (λ q. (image (plus p q)).g) qs rs,
      sum_by-append (λ q. (image (plus p q)).b) qs rs,
      sum_by-append (λ q. (image (plus p q)).m) qs rs,
    ) refl

pub sums-none : (image : Image) (p : Point) → clear ≡ sums_at image p []
unfolding sums_at
sums-none image p = refl

pub lines-none : (image : Image) (p : Point) (n : ℕ) → clear ≡ sums_at image p (lines_of n 0)
unfolding lines_of
lines-none image p n = sums-none image p

-- one more pixel of a line
pub line_more :
    (image : Image) (p at : Point) (n j i : ℕ) (sums pixel new : Channels)
    → sums ≡ sums_at image p (line_of n j i) → at ≡ plus p (point (pos i -ℤ pos n) (pos j -ℤ pos n))
    → pixel ≡ image at → new ≡ added sums pixel → new ≡ sums_at image p (line_of n j (i + 1))
line_more image p at n j i sums pixel new were there is sum =
    let offset : Point = point (pos i -ℤ pos n) (pos j -ℤ pos n) in
    sum ∙ ap₂ added were (is ∙ ap image there)
    ∙ sym (sums_at-push image p offset (line_of n j i))
    ∙ ap (sums_at image p) (sym (map-range_with_len_more (λ i. point (pos i -ℤ pos n) (pos j -ℤ pos n)) 0 i i (omega arith)))

-- one more line
pub lines-push : {A : Type 0} (line : ℕ → List A) (j : ℕ)
    → flat_map line (range_with_len 0 (j + 1)) ≡ flat_map line (range_with_len 0 j) ++ line j
lines-push line j =
    ap (flat_map line)
    (sym (map-id (range_with_len 0 (j + 1))) ∙ map-range_with_len_more (λ k. k) 0 j j (omega arith)
    ∙ ap (λ ks. ks ++ j ∷ []) (map-id (range_with_len 0 j)))
    ∙ flat_map-append line (range_with_len 0 j) (j ∷ [])
    ∙ ap (λ ys. flat_map line (range_with_len 0 j) ++ ys) (append-nil (line j))

lines-more : (n j : ℕ) → lines_of n (j + 1) ≡ lines_of n j ++ line_of n j (2 * n + 1)
unfolding lines_of
lines-more n j = lines-push (λ j. line_of n j (2 * n + 1)) j

-- one more line of a square
pub lines_more :
    (image : Image) (p : Point) (n j : ℕ) (sums line new : Channels)
    → sums ≡ sums_at image p (lines_of n j) → line ≡ sums_at image p (line_of n j (2 * n + 1))
    → new ≡ added sums line → new ≡ sums_at image p (lines_of n (j + 1))
lines_more image p n j sums line new were is sum =
    sum ∙ ap₂ added were is
    ∙ sym (sums_at-append image p (lines_of n j) (line_of n j (2 * n + 1)))
    ∙ ap (sums_at image p) (sym (lines-more n j))

square-lines : (n : ℕ) → square n ≡ lines_of n (2 * n + 1)
unfolding lines_of
square-lines n =
    flat_map-map (λ j. map (λ i. point i j) (span n)) (λ k. pos k -ℤ pos n) (range_with_len 0 (2 * n + 1))
    ∙ ap (λ line. flat_map line (range_with_len 0 (2 * n + 1)))
    (fun_ext (λ k. map-map (λ i. point i (pos k -ℤ pos n)) (λ i. pos i -ℤ pos n) (range_with_len 0 (2 * n + 1))))

-- the mean over the square
pub blurred-lines :
    (image : Image) (p : Point) (n j count : ℕ) (sums mean : Channels) → j ≡ 2 * n + 1 → count ≡ (2 * n + 1) * (2 * n + 1)
    → sums ≡ sums_at image p (lines_of n j) → mean ≡ divided sums count → mean ≡ blurred n image p
unfolding blurred sums_at
blurred-lines image p n j count sums mean all is were divides =
    divides ∙ ap₂ divided (were ∙ ap (λ j. sums_at image p (lines_of n j)) all ∙ ap (sums_at image p) (sym (square-lines n))) is

-- the sums of some lines of a square of a blur stay small
pub lines_fit : (n j : ℕ) → n ≤ 16 → j ≤ 2 * n + 1 → 255 * ((2 * n + 1) * j) ≤ 1000000
lines_fit n j small within =
    let first : (2 * n + 1) * j ≤ (2 * n + 1) * 33 = mul-le-mul_left (2 * n + 1) (omega arith) in
    omega (arith, first)

pub lines_fit_more : (n j : ℕ) → 255 * ((2 * n + 1) * j) + 255 * (2 * n + 1) ≤ 255 * ((2 * n + 1) * (j + 1))
lines_fit_more n j = omega arith
