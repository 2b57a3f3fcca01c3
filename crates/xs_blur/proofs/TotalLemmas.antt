-- Sums of the first values of a function, and over the squares of blurs.
use Rattle.std.proofs.Common.{◌≡◌, ℕ, zero, suc, ◌+◌, ◌*◌, ◌<◌, ◌≤◌, pos, ◌-ℤ◌, List, [], ◌∷◌, length, take, drop, ◌-◌, map, flat_map, sum_by, get_or, add-one, refl, sym, ap, subst, ◌∙◌, arith}
use Rattle.std.specs.List.{range_with_len}
use Rattle.std.proofs.lemmas.List.Sums.{sum_by-append, sum_by-cons}
use Rattle.std.proofs.lemmas.List.FromFn.{sum_by-map-range_with_len_more}
use Rattle.std.proofs.lemmas.Simd.{map-map, get_or-chunk, length-chunk}
use Rattle.xs_pixel.specs.Points.{Point, point, span, square}
use Rattle.xs_blur.specs.Totals.{total, column, window}

pub total-none : (f : ℕ → ℕ) → total f 0 ≡ 0
unfolding total
total-none f = refl

total-suc : (f : ℕ → ℕ) (k : ℕ) → total f (suc k) ≡ total f k + f k
unfolding total
total-suc f k = refl

pub total-more : (f : ℕ → ℕ) (k : ℕ) → total f (k + 1) ≡ total f k + f k
total-more f k = rw add-one (total-suc f k)

pub total-same : (f g : ℕ → ℕ) (k : ℕ) → ((i : ℕ) → i < k → f i ≡ g i) → total f k ≡ total g k
total-same f g zero same = total-none f ∙ sym (total-none g)
total-same f g (suc k) same =
    rw (total-suc f k, total-suc g k, total-same f g k (λ i h. same i (omega arith)), same k (omega arith)) refl

pub total-le : (f : ℕ → ℕ) (most k : ℕ) → ((i : ℕ) → i < k → f i ≤ most) → total f k ≤ k * most
total-le f most zero small = omega (arith, total-none f)
total-le f most (suc k) small =
    omega (arith, total-suc f k, total-le f most k (λ i h. small i (omega arith)), small k (omega arith))

pub total-le-total : (f g : ℕ → ℕ) (k : ℕ) → ((i : ℕ) → i < k → f i ≤ g i) → total f k ≤ total g k
total-le-total f g zero less = omega (arith, total-none f)
total-le-total f g (suc k) less =
    omega (arith, total-suc f k, total-suc g k, total-le-total f g k (λ i h. less i (omega arith)), less k (omega arith))

pub total-first : (f : ℕ → ℕ) (k : ℕ) → total f (k + 1) ≡ f 0 + total (λ i. f (i + 1)) k
total-first f zero = omega (arith, total-more f 0, total-none f, total-none (λ i. f (i + 1)))
total-first f (suc k) =
    let at : f (k + 1) ≡ f (suc k) = ap f (omega arith) in
    let before : total f (suc k) ≡ f 0 + total (λ i. f (i + 1)) k = ap (total f) (sym (add-one k)) ∙ total-first f k in
    omega (arith, total-more f (suc k), total-suc (λ i. f (i + 1)) k, before, at)

total-zero : (k : ℕ) → total (λ i. 0) k ≡ 0
total-zero zero = total-none (λ i. 0)
total-zero (suc k) = omega (arith, total-suc (λ i. 0) k, total-zero k)

total-plus : (f g : ℕ → ℕ) (k : ℕ) → total (λ i. f i + g i) k ≡ total f k + total g k
total-plus f g zero = omega (arith, total-none (λ i. f i + g i), total-none f, total-none g)
total-plus f g (suc k) =
    omega (arith, total-suc (λ i. f i + g i) k, total-suc f k, total-suc g k, total-plus f g k)

-- row by row or column by column
pub total-swap :
    (f : ℕ → ℕ → ℕ) (k m : ℕ)
    → total (λ i. total (f i) m) k ≡ total (λ j. total (λ i. f i j) k) m
total-swap f zero m =
    total-none (λ i. total (f i) m) ∙ sym (total-zero m)
    ∙ total-same (λ j. 0) (λ j. total (λ i. f i j) 0) m (λ j h. sym (total-none (λ i. f i j)))
total-swap f (suc k) m =
    total-suc (λ i. total (f i) m) k
    ∙ ap (λ (n : ℕ). n + total (f k) m) (total-swap f k m)
    ∙ sym (total-plus (λ j. total (λ i. f i j) k) (f k) m)
    ∙ total-same (λ j. total (λ i. f i j) k + f k j) (λ j. total (λ i. f i j) (suc k)) m (λ j h. sym (total-suc (λ i. f i j) k))

sum-range : {X : Type 0} (g : X → ℕ) (f : ℕ → X) (k : ℕ) → sum_by g (map f (range_with_len 0 k)) ≡ total (λ i. g (f i)) k
sum-range g f zero = sym (total-none (λ i. g (f i)))
sum-range g f (suc k) =
    let more : sum_by g (map f (range_with_len 0 (k + 1))) ≡ sum_by g (map f (range_with_len 0 k)) + g (f k) =
    sum_by-map-range_with_len_more g f 0 k k (omega arith)
    in
    let is : suc k ≡ k + 1 = omega arith in
    let P : ℕ → Type 0 = λ n. sum_by g (map f (range_with_len 0 n)) ≡ total (λ i. g (f i)) n in
    subst P (sym is) (more ∙ ap (λ (n : ℕ). n + g (f k)) (sum-range g f k) ∙ sym (total-more (λ i. g (f i)) k))

sum-flat_map : {X Y : Type 0} (g : Y → ℕ) (line : X → List Y) (xs : List X) → sum_by g (flat_map line xs) ≡ sum_by (λ x. sum_by g (line x)) xs
sum-flat_map g line [] = refl
sum-flat_map g line (x ∷ xs) =
    sum_by-append g (line x) (flat_map line xs)
    ∙ ap (λ (n : ℕ). sum_by g (line x) + n) (sum-flat_map g line xs)
    ∙ sym (sum_by-cons (λ y. sum_by g (line y)) x xs)

-- the sum over a square, line by line
pub sum-square :
    (f : Point → ℕ) (n : ℕ)
    → sum_by f (square n) ≡ total (λ j. total (λ i. f (point (pos i -ℤ pos n) (pos j -ℤ pos n))) (2 * n + 1)) (2 * n + 1)
sum-square f n =
    sum-flat_map f (λ j. map (λ i. point i j) (span n)) (span n)
    ∙ sum-range (λ j. sum_by f (map (λ i. point i j) (span n))) (λ k. pos k -ℤ pos n) (2 * n + 1)
    ∙ total-same (λ j. sum_by f (map (λ i. point i (pos j -ℤ pos n)) (span n))) (λ j. total (λ i. f (point (pos i -ℤ pos n) (pos j -ℤ pos n))) (2 * n + 1)) (2 * n + 1)
    (λ j h. ap (sum_by f) (map-map (λ i. point i (pos j -ℤ pos n)) (λ i. pos i -ℤ pos n) (range_with_len 0 (2 * n + 1)))
    ∙ sum-range f (λ i. point (pos i -ℤ pos n) (pos j -ℤ pos n)) (2 * n + 1))

-- ---- columns and windows

pub column-none : (bytes : List ℕ) (long y c : ℕ) → column bytes long y 0 c ≡ 0
unfolding column
column-none bytes long y c = total-none (λ j. get_or bytes (long * (y + j) + c) 0)

pub column-more : (bytes : List ℕ) (long y k c : ℕ) → column bytes long y (k + 1) c ≡ column bytes long y k c + get_or bytes (long * (y + k) + c) 0
unfolding column
column-more bytes long y k c = total-more (λ j. get_or bytes (long * (y + j) + c) 0) k

pub column-first : (bytes : List ℕ) (long y k c : ℕ) → column bytes long y (k + 1) c ≡ get_or bytes (long * y + c) 0 + column bytes long (y + 1) k c
unfolding column
column-first bytes long y k c =
    let start : y + 0 ≡ y = omega arith in
    total-first (λ j. get_or bytes (long * (y + j) + c) 0) k
    ∙ ap (λ (n : ℕ). n + total (λ j. get_or bytes (long * (y + (j + 1)) + c) 0) k) (ap (λ (z : ℕ). get_or bytes (long * z + c) 0) start)
    ∙ ap (λ (n : ℕ). get_or bytes (long * y + c) 0 + n)
    (total-same (λ j. get_or bytes (long * (y + (j + 1)) + c) 0) (λ j. get_or bytes (long * (y + 1 + j) + c) 0) k
    (λ j h. let at : y + (j + 1) ≡ y + 1 + j = omega arith in ap (λ (z : ℕ). get_or bytes (long * z + c) 0) at))

pub column-le : (bytes : List ℕ) (long y k c : ℕ) → ((i : ℕ) → get_or bytes i 0 ≤ 255) → column bytes long y k c ≤ 255 * k
unfolding column
column-le bytes long y k c small =
    omega (arith, total-le (λ j. get_or bytes (long * (y + j) + c) 0) 255 k (λ j h. small (long * (y + j) + c)))

pub window-none : (columns : List ℕ) (x channel : ℕ) → window columns x 0 channel ≡ 0
unfolding window
window-none columns x channel = total-none (λ i. get_or columns (4 * (x + i) + channel) 0)

pub window-more : (columns : List ℕ) (x k channel : ℕ) → window columns x (k + 1) channel ≡ window columns x k channel + get_or columns (4 * (x + k) + channel) 0
unfolding window
window-more columns x k channel = total-more (λ i. get_or columns (4 * (x + i) + channel) 0) k

pub window-first : (columns : List ℕ) (x k channel : ℕ) → window columns x (k + 1) channel ≡ get_or columns (4 * x + channel) 0 + window columns (x + 1) k channel
unfolding window
window-first columns x k channel =
    let start : x + 0 ≡ x = omega arith in
    total-first (λ i. get_or columns (4 * (x + i) + channel) 0) k
    ∙ ap (λ (n : ℕ). n + total (λ i. get_or columns (4 * (x + (i + 1)) + channel) 0) k) (ap (λ (z : ℕ). get_or columns (4 * z + channel) 0) start)
    ∙ ap (λ (n : ℕ). get_or columns (4 * x + channel) 0 + n)
    (total-same (λ i. get_or columns (4 * (x + (i + 1)) + channel) 0) (λ i. get_or columns (4 * (x + 1 + i) + channel) 0) k
    (λ i h. let at : x + (i + 1) ≡ x + 1 + i = omega arith in ap (λ (z : ℕ). get_or columns (4 * z + channel) 0) at))

pub window-le : (columns : List ℕ) (x k channel most : ℕ) → ((i : ℕ) → get_or columns i 0 ≤ most) → window columns x k channel ≤ k * most
unfolding window
window-le columns x k channel most small =
    total-le (λ i. get_or columns (4 * (x + i) + channel) 0) most k (λ i h. small (4 * (x + i) + channel))

-- ---- a row of bytes

pub row-at : (from long : ℕ) (bytes : List ℕ) (c : ℕ) → c < long → get_or (take (from + long - from) (drop from bytes)) c 0 ≡ get_or bytes (from + c) 0
row-at from long bytes c within =
    let size : from + long - from ≡ long = omega arith in
    rw size (get_or-chunk from long bytes c 0 within)

pub length-row : (from long : ℕ) (bytes : List ℕ) → from + long ≤ length bytes → length (take (from + long - from) (drop from bytes)) ≡ long
length-row from long bytes there =
    let size : from + long - from ≡ long = omega arith in
    rw size (length-chunk from long bytes there)
