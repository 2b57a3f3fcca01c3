-- What a file without a fault holds.
use Rattle.std.proofs.Common.{◌≡◌, ℕ, ◌+◌, ◌*◌, ◌^◌, ◌<◌, ◌≤◌, ℤ, pos, neg_ℤ, int_le, Bool, true, false, nat_lt, nat_le, Option, Some, None, List, [], ◌∷◌, zero, suc, length, drop, w32, refl, arith}
use Rattle.std.specs.Int.{cast_signed}
use Rattle.std.specs.Option.{option_map}
use Rattle.std.specs.Simd.Lanes.{Each1}
use Rattle.std.proofs.lemmas.Bool.{not-false, and_parts, or_parts}
use Rattle.std.proofs.lemmas.Bool.Decides.{nat_tests}
use Rattle.std.proofs.lemmas.Int.{ints}
use Rattle.std.proofs.lemmas.List.{length-drop}
use Rattle.std.proofs.lemmas.Nat.{mul-le}
use Rattle.xs_rawfile.specs.declared.drawing.RawKind.{RawKind}
use Rattle.xs_rawfile.specs.declared.drawing.RawKind.TheVariants.{Colour, Cm32}
use Rattle.xs_rawfile.specs.declared.fault.LevelCode.{LevelCode}
use Rattle.xs_rawfile.specs.Raw.{IsRaw, IsSide, IsPlace, Fills, is_side, is_place}
use Rattle.xs_rawfile.specs.Pixels.{unmultiplied_fault}
use Rattle.xs_rawfile.specs.Level.{raw_of, number_at, first_of, first_fault, lacks_magic, has_unknown_kind, has_other_kind, has_wrong_side, has_wrong_place, has_wrong_length}
use Rattle.xs_rawfile.proofs.Scanning.{fills_from_none}

-- where no code is given, the first test fails and no later one gives a code
none_given :
    (b : Bool) (code : LevelCode) (rest : List (Bool × LevelCode)) (last : Option LevelCode)
    → first_of ((b, code) ∷ rest) last ≡ None → (b ≡ false) × (first_of rest last ≡ None)
none_given true code rest last h = absurd cc
none_given false code rest last h = (refl, h)

side_from_test : (n : ℕ) → is_side n ≡ true → IsSide n
side_from_test n h =
    let both = and_parts (nat_le 1 n) (nat_le n 4096) h in (grind (arith, nat_tests, both.0), grind (arith, nat_tests, both.1))

place_from_test : (z : ℤ) → is_place z ≡ true → IsPlace z
place_from_test z h =
    let both = and_parts (int_le (neg_ℤ (pos 65536)) z) (int_le z (pos 65536)) h in (grind (arith, ints, both.0), grind (arith, ints, both.1))

nothing_mapped : {A B : Type 0} (f : A → B) (o : Option A) → option_map f o ≡ None → o ≡ None
nothing_mapped f None h = refl
nothing_mapped f (Some x) h = absurd cc

fills_from_no_fault : (kind : RawKind) (bytes : List ℕ) → Each1 (λ b. b ≤ 255) bytes → unmultiplied_fault kind bytes ≡ None → Fills kind bytes
fills_from_no_fault Colour bytes bound h = fills_from_none 0 bytes bound (nothing_mapped _ _ h)
fills_from_no_fault Cm32 bytes bound h = tt

-- a file without a fault is as long as its header says
pub long_enough : (bytes : List ℕ) → has_wrong_length bytes ≡ false → (21 ≤ length bytes) × (length bytes ≡ 21 + 4 * (number_at bytes 13 * number_at bytes 17))
unfolding has_wrong_length
long_enough bytes h =
    let parts = or_parts (nat_lt (length bytes) 21) _ h in
    (grind (arith, nat_tests, parts.0), grind (arith, nat_tests, not-false _ parts.1))

sides : (bytes : List ℕ) → 21 ≤ length bytes → has_wrong_side bytes ≡ false → IsSide (number_at bytes 13) × IsSide (number_at bytes 17)
unfolding has_wrong_side
sides bytes long h =
    let there : nat_le 21 (length bytes) ≡ true = grind (arith, nat_tests) in
    let both = and_parts _ _ (not-false _ (rw there at h)) in
    (side_from_test _ both.0, side_from_test _ both.1)

places :
    (bytes : List ℕ) → 21 ≤ length bytes → has_wrong_place bytes ≡ false
    → IsPlace (cast_signed w32 (number_at bytes 5)) × IsPlace (cast_signed w32 (number_at bytes 9))
unfolding has_wrong_place
places bytes long h =
    let there : nat_le 21 (length bytes) ≡ true = grind (arith, nat_tests) in
    let both = and_parts _ _ (not-false _ (rw there at h)) in
    (place_from_test _ both.0, place_from_test _ both.1)

-- the tests of a file without a fault fail
pub record Passes (kind : RawKind) (bytes : List ℕ) : Type 0 where
  pub magic : lacks_magic bytes ≡ false
  pub known : has_unknown_kind bytes ≡ false
  pub same_kind : has_other_kind kind bytes ≡ false
  pub side : has_wrong_side bytes ≡ false
  pub place : has_wrong_place bytes ≡ false
  pub whole : has_wrong_length bytes ≡ false
  pub filled : unmultiplied_fault kind (drop 21 bytes) ≡ None

pub passes : (kind : RawKind) (bytes : List ℕ) → first_fault kind bytes ≡ None → Passes kind bytes
unfolding first_fault
passes kind bytes h =
    let a = none_given _ _ _ _ h in
    let b = none_given _ _ _ _ a.1 in
    let c = none_given _ _ _ _ b.1 in
    let d = none_given _ _ _ _ c.1 in
    let e = none_given _ _ _ _ d.1 in
    let f = none_given _ _ _ _ e.1 in
    record { magic = a.0; known = b.0; same_kind = c.0; side = d.0; place = e.0; whole = f.0; filled = f.1 }

-- it holds a drawing
pub holds_raw : (kind : RawKind) (bytes : List ℕ) → Each1 (λ b. b ≤ 255) (drop 21 bytes) → first_fault kind bytes ≡ None → IsRaw (raw_of kind bytes)
holds_raw kind bytes bound h =
    let p = passes kind bytes h in
    let long = long_enough bytes p.whole in
    let side = sides bytes long.0 p.side in
    let place = places bytes long.0 p.place in
    record {
      side_w = side.0;
      side_h = side.1;
      place_x = place.0;
      place_y = place.1;
      whole = omega (arith, length-drop 21 bytes, long.1);
      fills = fills_from_no_fault kind (drop 21 bytes) bound p.filled;
    }

-- the bytes from a place on are bytes
bytes_behind : (n : ℕ) (bytes : List ℕ) → Each1 (λ b. b < 256) bytes → Each1 (λ b. b ≤ 255) (drop n bytes)
bytes_behind zero [] each = tt
bytes_behind (suc n) [] each = tt
bytes_behind zero (b ∷ bytes) each = (omega (arith, each.0), bytes_behind zero bytes each.1)
bytes_behind (suc n) (b ∷ bytes) each = bytes_behind n bytes each.1

pub file_holds_raw : (kind : RawKind) (bytes : List ℕ) → Each1 (λ b. b < 256) bytes → first_fault kind bytes ≡ None → IsRaw (raw_of kind bytes)
file_holds_raw kind bytes each = holds_raw kind bytes (bytes_behind 21 bytes each)

-- the bytes of its pixels are few enough for their numbers
pub pixels_few : (bytes : List ℕ) → has_wrong_side bytes ≡ false → has_wrong_length bytes ≡ false → length (drop 21 bytes) < 2 ^ 32
pixels_few bytes side whole =
    let long = long_enough bytes whole in
    let s = sides bytes long.0 side in
    let most = mul-le (number_at bytes 13) (number_at bytes 17) 4096 4096 s.0.1 s.1.1 in
    omega (arith, length-drop 21 bytes, long.1, most)
