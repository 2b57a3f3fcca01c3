-- The root of a row of a scene in range is fit
use Rattle.std.proofs.Common.{ℕ, ◌≡◌, ◌≤◌, ◌<◌, ◌+◌, ◌^◌, Bool, true, false, refl, Option, Some, None, [], arith}
use Rattle.std.proofs.lemmas.Bool.{cond_both}
use Rattle.std.proofs.lemmas.Int.{ints}
use Rattle.std.proofs.lemmas.List.Elements.{All-head}
use Rattle.xs_base.specs.declared.limits.TheConstants.{GREATEST_RADIUS}
use Rattle.xs_pixel.specs.Points.{Point, plus, opposite}
use Rattle.xs_pixel.specs.declared.operation.Op.{Op}
use Rattle.xs_pixel.specs.declared.operation.Op.TheVariants.{Over, Add, Sub, Mult, Min, Max, MatteIn, MatteOut}
use Rattle.xs_scene.specs.InRange.{IsInRange}
use Rattle.xs_scene.specs.Records.{SceneRecord, ColoursRecord}
use Rattle.xs_meaning.specs.Bounds.{IsWithin, LeavesWithin}
use Rattle.xs_meaning.specs.Drawings.{colours_of, number_of}
use Rattle.xs_meaning.specs.Expressions.{Expr, Clear, Leaf, Tinted, Card, Pair, Blur, is_clear, staying, with_clear_first, with_clear_second, pair_staying, blur_of, leaf_by, by_offsets, root_of, drawings_of}
use Rattle.xs_meaning.specs.Palettes.{Dropped, none_dropped, is_as_written, is_clear_pixel, pixel_of, tint_at}
use Rattle.xs_meaning.specs.RowValues.{camera_at}
use Rattle.xs_plan.specs.Valid.{IsOffset}
use Rattle.xs_demand.specs.Fit.{IsFit}
use Rattle.xs_demand.specs.Renamed.{HasBelow}
use Rattle.xs_demand.proofs.RenamedAliases.{All-first, All-last}
use Rattle.xs_demand.proofs.RowFacts.{Keeps, whole_row-keeps}

-- no input is clear, and radii are in range
abbrev IsTrimmed : Expr → Type 0
IsTrimmed Clear = Unit {0}
IsTrimmed (Leaf d at) = Unit {0}
IsTrimmed (Tinted d at tint) = Unit {0}
IsTrimmed (Card pixel) = Unit {0}
IsTrimmed (Pair op a b) = (is_clear a ≡ false) × (is_clear b ≡ false) × IsTrimmed a × IsTrimmed b
IsTrimmed (Blur n a) = (1 ≤ n) × (n ≤ GREATEST_RADIUS) × (is_clear a ≡ false) × IsTrimmed a

-- what stays of a pair of which the first input is clear, and of one of which the second is
trimmed-one :
    (op : Op) (a b : Expr) → IsTrimmed a → IsTrimmed b
    → IsTrimmed (pair_staying (with_clear_first op) op a b) × IsTrimmed (pair_staying (with_clear_second op) op a b)
trimmed-one Over a b of_a of_b = (of_b, of_a)
trimmed-one Add a b of_a of_b = (of_b, of_a)
trimmed-one Sub a b of_a of_b = (of_b, tt)
trimmed-one Mult a b of_a of_b = (tt, tt)
trimmed-one Min a b of_a of_b = (tt, tt)
trimmed-one Max a b of_a of_b = (of_b, of_a)
trimmed-one MatteIn a b of_a of_b = (tt, tt)
trimmed-one MatteOut a b of_a of_b = (tt, of_a)

trimmed-pair :
    (op : Op) (a b : Expr) (x y : Bool) → is_clear a ≡ x → is_clear b ≡ y → IsTrimmed a → IsTrimmed b
    → IsTrimmed (pair_staying (staying op x y) op a b)
trimmed-pair op a b true y is_a is_b of_a of_b = (trimmed-one op a b of_a of_b).0
trimmed-pair op a b false true is_a is_b of_a of_b = (trimmed-one op a b of_a of_b).1
trimmed-pair op a b false false is_a is_b of_a of_b = (is_a, is_b, of_a, of_b)

trimmed-blur : (n : ℕ) (a : Expr) → 1 ≤ n → n ≤ GREATEST_RADIUS → IsTrimmed a → IsTrimmed (blur_of n a)
trimmed-blur n Clear least most has = tt
trimmed-blur n (Leaf d at) least most has = (least, most, refl, has)
trimmed-blur n (Tinted d at tint) least most has = (least, most, refl, has)
trimmed-blur n (Card pixel) least most has = (least, most, refl, has)
trimmed-blur n (Pair op a b) least most has = (least, most, refl, has)
trimmed-blur n (Blur m a) least most has = (least, most, refl, has)

trimmed-leaf :
    (c : Option ColoursRecord) (d row : ℕ) (f : Dropped) (at : Point) → IsTrimmed (leaf_by c d row f at)
trimmed-leaf None d row f at = tt
trimmed-leaf (Some c) d row f at =
    cond_both (is_as_written c row f) (Leaf d at) (Tinted d at (tint_at c row f)) IsTrimmed (λ passes. tt) (λ fails. tt)

-- under each offset
abbrev AreTrimmed : (Point → Expr) → Type 0
AreTrimmed e = (o : Point) → IsTrimmed (e o)

keeps : (s : SceneRecord) → Keeps (by_offsets s) AreTrimmed
unfolding by_offsets
keeps s =
    record {
      nothing = λ o. tt;
      drawing = λ level index row f o.
          let number = number_of s.levels level index in trimmed-leaf (colours_of s number) number row f o;
      moved = λ q e has o. has (plus o q);
      card = λ style o.
          cond_both (is_clear_pixel (pixel_of style)) Clear (Card (pixel_of style)) IsTrimmed (λ passes. tt) (λ fails. tt);
      pair = λ op a b of_a of_b o.
          trimmed-pair op (a o) (b o) (is_clear (a o)) (is_clear (b o)) refl refl (of_a o) (of_b o);
      blur = λ n a least most has o. trimmed-blur n (a o) least most (has o);
    }

trimmed-root : (s : SceneRecord) → IsInRange s → (row : ℕ) → IsTrimmed (root_of s row)
trimmed-root s range row =
    whole_row-keeps (by_offsets s) AreTrimmed (keeps s) s range 0 row none_dropped (opposite (camera_at s row))

-- ---- with drawings below a number, at offsets within one

IsOffset-within : (n : ℕ) (p : Point) → n ≤ 2 ^ 27 → IsWithin n p → IsOffset p.x × IsOffset p.y
IsOffset-within n p most here = (
  (omega (arith, ints, here.left), omega (arith, ints, here.right)),
  (omega (arith, ints, here.bottom), omega (arith, ints, here.top)),
)

fit-trimmed :
    (count n : ℕ) → n ≤ 2 ^ 27 → (e : Expr) → HasBelow count e → LeavesWithin n e → IsTrimmed e → IsFit count e
fit-trimmed count n most Clear below leaves has = tt
fit-trimmed count n most (Leaf d at) below leaves has =
    let offsets = IsOffset-within n at most leaves in
    (All-head (λ k. k < count) d [] below, offsets.0, offsets.1)
fit-trimmed count n most (Tinted d at tint) below leaves has =
    let offsets = IsOffset-within n at most leaves in
    (All-head (λ k. k < count) d [] below, offsets.0, offsets.1)
fit-trimmed count n most (Card pixel) below leaves has = tt
fit-trimmed count n most (Pair op a b) below leaves has = (
  has.0,
  has.1,
  fit-trimmed count n most a (All-first (λ k. k < count) (drawings_of a) (drawings_of b) below) leaves.0 has.2,
  fit-trimmed count n most b (All-last (λ k. k < count) (drawings_of a) (drawings_of b) below) leaves.1 has.3,
)
fit-trimmed count n most (Blur radius a) below leaves has =
    (has.0, has.1, has.2, fit-trimmed count n most a below leaves has.3)

pub fit-root :
    ((s : SceneRecord) → IsInRange s → (row : ℕ) → LeavesWithin (2 ^ 22 + 2 ^ 26) (root_of s row))
    → (s : SceneRecord) → IsInRange s → (count row : ℕ) → HasBelow count (root_of s row) → IsFit count (root_of s row)
fit-root leaves s range count row below =
    fit-trimmed count (2 ^ 22 + 2 ^ 26) (omega arith) (root_of s row) below (leaves s range row)
    (trimmed-root s range row)
