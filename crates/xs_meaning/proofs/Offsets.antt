-- How far pegs, and so drawings, can be moved
use Rattle.std.proofs.Common.{ℕ, zero, suc, ◌+◌, ◌*◌, ◌/◌, ◌-◌, ◌^◌, ◌≡◌, ◌≤◌, ◌<◌, ℤ, pos, negsuc, neg_ℤ, ◌-ℤ◌, ◌*ℤ◌, ◌≤ℤ◌, subst, nat_le, nat_lt, Option, Some, None, List, filter, All, IfSome, inl, inr, ⊎_elim, mul_comm, arith, leb-true, ltb-true}
use Rattle.std.proofs.lemmas.Bool.{cond_both}
use Rattle.std.specs.Int.{int_div_euclid}
use Rattle.std.proofs.Math.Nat.{zero-div, div-le_of_le-mul, div-lt_iff_lt-mul, mul-le-mul_left}
use Rattle.std.proofs.lemmas.Int.{ints}
use Rattle.std.proofs.lemmas.List.Elements.{All-filter, filter_passes}
use Rattle.xs_scene.specs.Records.{PegKeyRecord, SheetRecord}
use Rattle.xs_scene.specs.InRange.{PegInRange}
use Rattle.xs_scene.specs.Ranges.{IsOffset, IsPegKey}
use Rattle.xs_meaning.specs.Bounds.{IsWithin}
use Rattle.xs_meaning.specs.Places.{key_in_force, key_after, on_line, LiesBetween, offset_by, own_offset, place_up, place_of, peg_at, no_peg}
use Rattle.xs_pixel.specs.Points.{Point, point, origin, plus}
use Rattle.xs_meaning.proofs.KeyLemmas.{latest-has, earliest-has}
use Rattle.xs_meaning.proofs.Lists.{All-slice_index_or}

part_backwards :
    (n product whole : ℕ) → product ≤ suc n * whole → 0 < whole
    → LiesBetween (pos 0) (negsuc n) (int_div_euclid (neg_ℤ (pos product)) (pos whole))
part_backwards n zero whole le positive =
    let none : 0 / whole ≡ 0 = zero-div whole in inr (omega (arith, ints), omega (arith, ints))
part_backwards n (suc m) whole le positive =
    let less : m / whole < suc n = (div-lt_iff_lt-mul positive).1 (omega arith) in
    inr (omega (arith, ints), omega (arith, ints))

-- a part of a distance lies between nothing and the distance
part_of_distance :
    (distance : ℤ) (done whole : ℕ) → done ≤ whole → 0 < whole
    → LiesBetween (pos 0) distance (int_div_euclid (distance *ℤ pos done) (pos whole))
part_of_distance (pos n) done whole le positive =
    let most : n * done / whole ≤ n =
    div-le_of_le-mul whole (subst (λ x. n * done ≤ x) (mul_comm n whole) (mul-le-mul_left n le)) in
    inl (omega (arith, ints), omega (arith, ints))
part_of_distance (negsuc n) done whole le positive =
    part_backwards n (suc n * done) whole (mul-le-mul_left (suc n) le) positive

pub on_line-between :
    (from to : ℤ) (done whole : ℕ) → done ≤ whole → 0 < whole → LiesBetween from to (on_line from to done whole)
unfolding on_line
on_line-between from to done whole le positive =
    ⊎_elim (λ h. inl (omega (arith, ints, h), omega (arith, ints, h))) (λ h. inr (omega (arith, ints, h), omega (arith, ints, h)))
    (part_of_distance (to -ℤ from) done whole le positive)

abbrev IsBetween : ℕ → ℤ → Type 0
IsBetween n x = (neg_ℤ (pos n) ≤ℤ x) × (x ≤ℤ pos n)

IsBetween-line : (n : ℕ) (from to x : ℤ) → LiesBetween from to x → IsBetween n from → IsBetween n to → IsBetween n x
IsBetween-line n from to x is start end =
    ⊎_elim (λ h. (omega (arith, ints), omega (arith, ints))) (λ h. (omega (arith, ints), omega (arith, ints))) is

abbrev IsKeyUpTo : ℕ → PegKeyRecord → Type 0
IsKeyUpTo row k = IsPegKey k × (k.row ≤ row)

abbrev IsKeyBeyond : ℕ → PegKeyRecord → Type 0
IsKeyBeyond row k = IsPegKey k × (row < k.row)

key_in_force-is : (keys : List PegKeyRecord) (row : ℕ) → All IsPegKey keys → IfSome (key_in_force keys row) (IsKeyUpTo row)
key_in_force-is keys row all =
    latest-has (IsKeyUpTo row) (λ k. k.row) (filter (λ k. nat_le k.row row) keys)
    (λ i d lt. (
      All-filter (λ k. nat_le k.row row) IsPegKey keys all i d lt,
      leb-true _ _ (filter_passes (λ k. nat_le k.row row) keys i d lt),
    ))

key_after-is : (keys : List PegKeyRecord) (row : ℕ) → All IsPegKey keys → IfSome (key_after keys row) (IsKeyBeyond row)
key_after-is keys row all =
    earliest-has (IsKeyBeyond row) (λ k. k.row) (filter (λ k. nat_lt row k.row) keys)
    (λ i d lt. (
      All-filter (λ k. nat_lt row k.row) IsPegKey keys all i d lt,
      ltb-true _ _ (filter_passes (λ k. nat_lt row k.row) keys i d lt),
    ))

IsBetween-offset : (x : ℤ) → IsOffset x → IsBetween 65536 x
IsBetween-offset x offset = (omega (arith, ints), omega (arith, ints))

within : (n : ℕ) (x y : ℤ) → IsBetween n x → IsBetween n y → IsWithin n (point x y)
within n x y across up = record { left = across.0; right = across.1; bottom = up.0; top = up.1 }

origin-within : (n : ℕ) → IsWithin n origin
origin-within n =
    within n (pos 0) (pos 0) (omega (arith, ints), omega (arith, ints)) (omega (arith, ints), omega (arith, ints))

offset_by-within :
    (a b : Option PegKeyRecord) (row : ℕ) → IfSome a (IsKeyUpTo row) → IfSome b (IsKeyBeyond row)
    → IsWithin 65536 (offset_by a b row)
offset_by-within None b row first next = origin-within 65536
offset_by-within (Some a) None row first next =
    within 65536 a.x a.y (IsBetween-offset a.x first.0.x) (IsBetween-offset a.y first.0.y)
offset_by-within (Some a) (Some b) row first next =
    cond_both a.line (point (on_line a.x b.x (row - a.row) (b.row - a.row)) (on_line a.y b.y (row - a.row) (b.row - a.row)))
    (point a.x a.y)
    (IsWithin 65536)
    (λ passes.
    within 65536 (on_line a.x b.x (row - a.row) (b.row - a.row)) (on_line a.y b.y (row - a.row) (b.row - a.row))
    (IsBetween-line 65536 a.x b.x (on_line a.x b.x (row - a.row) (b.row - a.row))
    (on_line-between a.x b.x (row - a.row) (b.row - a.row) (omega (arith, first.1, next.1)) (omega (arith, first.1, next.1)))
    (IsBetween-offset a.x first.0.x) (IsBetween-offset b.x next.0.x))
    (IsBetween-line 65536 a.y b.y (on_line a.y b.y (row - a.row) (b.row - a.row))
    (on_line-between a.y b.y (row - a.row) (b.row - a.row) (omega (arith, first.1, next.1)) (omega (arith, first.1, next.1)))
    (IsBetween-offset a.y first.0.y) (IsBetween-offset b.y next.0.y)))
    (λ fails. within 65536 a.x a.y (IsBetween-offset a.x first.0.x) (IsBetween-offset a.y first.0.y))

own_offset-within : (keys : List PegKeyRecord) (row : ℕ) → All IsPegKey keys → IsWithin 65536 (own_offset keys row)
unfolding own_offset
own_offset-within keys row all =
    offset_by-within (key_in_force keys row) (key_after keys row) row (key_in_force-is keys row all) (key_after-is keys row all)

pub plus-within : (m n : ℕ) (p q : Point) → IsWithin m p → IsWithin n q → IsWithin (m + n) (plus p q)
plus-within m n p q first second =
    record {
      left = omega (arith, ints, first.left, second.left);
      right = omega (arith, ints, first.right, second.right);
      bottom = omega (arith, ints, first.bottom, second.bottom);
      top = omega (arith, ints, first.top, second.top);
    }

pub IsWithin-more : (m n : ℕ) (p : Point) → m ≤ n → IsWithin m p → IsWithin n p
IsWithin-more m n p le here =
    record {
      left = omega (arith, ints, here.left);
      right = omega (arith, ints, here.right);
      bottom = omega (arith, ints, here.bottom);
      top = omega (arith, ints, here.top);
    }

place_up-within :
    (k : SheetRecord) → All PegInRange k.pegs
    → (n : ℕ) (peg : Option ℕ) (row : ℕ) → IsWithin (n * 65536) (place_up n k peg row)
unfolding place_up
place_up-within k all zero peg row = origin-within (0 * 65536)
place_up-within k all (suc n) None row = origin-within (suc n * 65536)
place_up-within k all (suc n) (Some i) row =
    IsWithin-more (65536 + n * 65536) (suc n * 65536)
    (plus (own_offset (peg_at k i).keys row) (place_up n k (peg_at k i).parent row)) (omega arith)
    (plus-within 65536 (n * 65536) (own_offset (peg_at k i).keys row) (place_up n k (peg_at k i).parent row)
    (own_offset-within (peg_at k i).keys row
    (All-slice_index_or PegInRange k.pegs i no_peg
    (record { parent = tt; keys = λ j d lt. absurd (omega arith) }) all).keys)
    (place_up-within k all n (peg_at k i).parent row))

-- the place of a peg is at most 64 pegs of 65,536 away
pub place_of-within :
    (k : SheetRecord) → All PegInRange k.pegs
    → (peg : Option ℕ) (row : ℕ) → IsWithin (2 ^ 22) (place_of k peg row)
place_of-within k all peg row = place_up-within k all 64 peg row
