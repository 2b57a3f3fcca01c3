-- Images that agree where an alias looks.
use Rattle.std.proofs.Common.{◌≡◌, ℕ, ◌+◌, ◌*◌, ◌/◌, ◌<◌, ℤ, pos, ◌+ℤ◌, ◌-ℤ◌, sum_by, List, [], ◌∷◌, All, map, flat_map, Option, refl, sym, ap, ◌∙◌, subst, arith, zero-add}
use Rattle.std.specs.List.{range_with_len}
use Rattle.std.proofs.lemmas.List.Elements.{All-append, All-from_get_or, All-head, All-map, All-nil, All-tail}
use Rattle.std.proofs.lemmas.List.FromFn.{length-range_with_len, get_or-range_with_len}
use Rattle.std.proofs.lemmas.List.Sums.{sum_by-cons}
use Rattle.std.proofs.lemmas.Int.{ints}
use Rattle.xs_pixel.specs.Channels.{Channels, channels}
use Rattle.xs_pixel.specs.Images.{Image, blurred, mean_of}
use Rattle.xs_pixel.specs.Points.{Point, point, plus, span, square}
use Rattle.xs_rect.specs.Area.{Area, Holds, grown}
use Rattle.xs_plan.specs.declared.job.Job.{Job}
use Rattle.xs_plan.specs.Record.{PlanRecord, entry_at}
use Rattle.xs_plan.specs.Values.{image_of_job}
use Rattle.xs_rawfile.specs.Held.{Held}
use Rattle.xs_raster.specs.declared.tile.Tile.{Tile}
use Rattle.xs_bench.specs.Inputs.{held_pictures, made_image, tile_image}

-- the image of an alias by its job
pub image_by :
    (h : Held) (p : PlanRecord) (k : ℕ) (a b : Option Tile) (j : Job) (q : Point) → j ≡ (entry_at p.entries k).job
    → image_of_job (held_pictures h) p.tints j (tile_image a) (tile_image b) q ≡ made_image h p k a b q
unfolding made_image
image_by h p k a b j q is = ap (λ (j : Job). image_of_job (held_pictures h) p.tints j (tile_image a) (tile_image b) q) is

-- images agree on the points of an area
abbrev pub Agree : Area → Image → Image → Type 0
Agree on f g = (x y : ℤ) → Holds on x y → f (point x y) ≡ g (point x y)

-- ---- sums over squares

all-flat_map :
    {X Y : Type 0} (P : Y → Type 0) (line : X → List Y) (xs : List X) → All (λ x. All P (line x)) xs → All P (flat_map line xs)
all-flat_map P line [] each = All-nil P
all-flat_map P line (x ∷ xs) each =
    All-append P (line x) (flat_map line xs) (All-head (λ x. All P (line x)) x xs each)
    (all-flat_map P line xs (All-tail (λ x. All P (line x)) x xs each))

-- what holds of the places of a square holds of its points
all-span : (P : ℤ → Type 0) (n : ℕ) → ((i : ℕ) → i < 2 * n + 1 → P (pos i -ℤ pos n)) → All P (span n)
all-span P n each =
    All-map P (λ k. pos k -ℤ pos n) (range_with_len 0 (2 * n + 1))
    (All-from_get_or (λ k. P (pos k -ℤ pos n)) (range_with_len 0 (2 * n + 1)) 0
    (λ i below.
    let within : i < 2 * n + 1 = omega (arith, length-range_with_len 0 (2 * n + 1)) in
    subst (λ (k : ℕ). P (pos k -ℤ pos n)) (sym (get_or-range_with_len 0 (2 * n + 1) i 0 within ∙ zero-add i)) (each i within)))

all-square :
    (P : Point → Type 0) (n : ℕ) → ((i j : ℕ) → i < 2 * n + 1 → j < 2 * n + 1 → P (point (pos i -ℤ pos n) (pos j -ℤ pos n)))
    → All P (square n)
all-square P n each =
    all-flat_map P (λ j. map (λ i. point i j) (span n)) (span n)
    (all-span (λ j. All P (map (λ i. point i j) (span n))) n
    (λ j row. All-map P (λ i. point i (pos j -ℤ pos n)) (span n)
    (all-span (λ i. P (point i (pos j -ℤ pos n))) n (λ i column. each i j column row))))

sum-same : {X : Type 0} (f g : X → ℕ) (xs : List X) → All (λ x. f x ≡ g x) xs → sum_by f xs ≡ sum_by g xs
sum-same f g [] each = refl
sum-same f g (x ∷ xs) each =
    let here = All-head (λ x. f x ≡ g x) x xs each in
    let rest = sum-same f g xs (All-tail (λ x. f x ≡ g x) x xs each) in
    omega (arith, sum_by-cons f x xs, sum_by-cons g x xs)

mean-same :
    (channel : Channels → ℕ) (n : ℕ) (rect : Area) (f g : Image) → Agree (grown rect n) f g → (x y : ℤ) → Holds rect x y
    → mean_of channel n f (point x y) ≡ mean_of channel n g (point x y)
mean-same channel n rect f g agree x y held =
    ap (λ (s : ℕ). s / ((2 * n + 1) * (2 * n + 1)))
    (sum-same (λ q. channel (f (plus (point x y) q))) (λ q. channel (g (plus (point x y) q))) (square n)
    (all-square (λ q. channel (f (plus (point x y) q)) ≡ channel (g (plus (point x y) q))) n (λ i j column row. ap channel (inside i j column row))))
  where
    inside :
        (i j : ℕ) → i < 2 * n + 1 → j < 2 * n + 1
        → f (plus (point x y) (point (pos i -ℤ pos n) (pos j -ℤ pos n))) ≡ g (plus (point x y) (point (pos i -ℤ pos n) (pos j -ℤ pos n)))
    inside i j column row =
        agree (x +ℤ (pos i -ℤ pos n)) (y +ℤ (pos j -ℤ pos n))
        (record {
          across = record { least = omega (arith, ints, held.across.least); below = omega (arith, ints, held.across.below) };
          up = record { least = omega (arith, ints, held.up.least); below = omega (arith, ints, held.up.below) };
        })

same_channels : (r g b m r' g' b' m' : ℕ) → r ≡ r' → g ≡ g' → b ≡ b' → m ≡ m' → channels r g b m ≡ channels r' g' b' m'
same_channels r g b m r' g' b' m' red green blue matte = cc

-- so do their blurs, if the images agree on as many points more on each side
pub blurred-same :
    (n : ℕ) (rect : Area) (f g : Image) → Agree (grown rect n) f g → (x y : ℤ) → Holds rect x y
    → blurred n f (point x y) ≡ blurred n g (point x y)
unfolding blurred
blurred-same n rect f g agree x y held =
    same_channels _ _ _ _ _ _ _ _
    (mean-same (λ c. c.r) n rect f g agree x y held) (mean-same (λ c. c.g) n rect f g agree x y held)
    (mean-same (λ c. c.b) n rect f g agree x y held) (mean-same (λ c. c.m) n rect f g agree x y held)
