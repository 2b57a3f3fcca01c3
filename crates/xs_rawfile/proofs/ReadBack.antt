-- The file of each drawing is read back, and no other bytes are.
use Rattle.std.proofs.Common.{◌≡◌, ℕ, ◌+◌, ◌*◌, ◌/◌, ◌%◌, ◌<◌, ◌≤◌, ℤ, pos, negsuc, neg_ℤ, true, false, not, ◌&&◌, nat_lt, nat_le, ◌==◌, int_le, None, List, [], ◌∷◌, ◌++◌, length, slice_index, w32, of_z, to_z, FitsSigned, refl, ap, sym, ◌∙◌, arith}
use Rattle.std.specs.Simd.Lanes.{Each1}
use Rattle.std.proofs.lemmas.Bool.{not-false, and_parts}
use Rattle.std.proofs.lemmas.Bool.Decides.{nat_tests}
use Rattle.std.proofs.lemmas.Int.{ints, to_z-of_z, of_z-to_z}
use Rattle.xs_rawfile.specs.declared.drawing.RawKind.{RawKind}
use Rattle.xs_rawfile.specs.declared.drawing.RawKind.TheVariants.{Colour, Cm32}
use Rattle.xs_rawfile.specs.Raw.{Raw, raw, IsRaw, IsPlace, IsSide, Fills, is_side, is_place, kind_byte}
use Rattle.xs_rawfile.specs.Pixels.{unmultiplied_fault}
use Rattle.xs_rawfile.specs.Level.{magic, four_bytes, level_bytes, raw_of, first_fault, lacks_magic, has_unknown_kind, has_other_kind, has_wrong_side, has_wrong_place, has_wrong_length}
use Rattle.xs_rawfile.proofs.Faults.{passes, long_enough}
use Rattle.xs_rawfile.proofs.Scanning.{none_from_fills}

-- four bytes give the number back
number_of_four : (n : ℕ) → n < 4294967296 → n % 256 + 256 * (n / 256 % 256) + 65536 * (n / 65536 % 256) + 16777216 * (n / 16777216 % 256) ≡ n
number_of_four n small = omega arith

place_fits : (z : ℤ) → IsPlace z → FitsSigned w32 z
place_fits (pos n) p = record { sfits = omega (arith, ints, p) }
place_fits (negsuc n) p = record { sfits = omega (arith, ints, p) }

below_word : (z : ℤ) → IsPlace z → of_z w32 z < 4294967296
below_word (pos n) p = omega (arith, ints, p)
below_word (negsuc n) p = omega (arith, ints, p)

place_back :
    (z : ℤ) → IsPlace z
    → to_z w32 (of_z w32 z % 256 + 256 * (of_z w32 z / 256 % 256) + 65536 * (of_z w32 z / 65536 % 256) + 16777216 * (of_z w32 z / 16777216 % 256)) ≡ z
place_back z p = ap (to_z w32) (number_of_four (of_z w32 z) (below_word z p)) ∙ to_z-of_z w32 z (place_fits z p)

same_raw :
    (x x' y y' : ℤ) (w w' h h' : ℕ) (kind : RawKind) (bytes : List ℕ) → x ≡ x' → y ≡ y' → w ≡ w' → h ≡ h'
    → raw x y w h kind bytes ≡ raw x' y' w' h' kind bytes
same_raw x x' y y' w w' h h' kind bytes ex ey ew eh = rw (ex, ey, ew, eh)

pub read_back : (d : Raw) → IsRaw d → raw_of d.kind (level_bytes d) ≡ d
read_back d good =
    same_raw _ d.x0 _ d.y0 _ d.w _ d.h d.kind d.bytes (place_back d.x0 good.place_x) (place_back d.y0 good.place_y)
    (number_of_four d.w (omega (arith, good.side_w))) (number_of_four d.h (omega (arith, good.side_h)))

side_test : (n : ℕ) → IsSide n → is_side n ≡ true
side_test n s =
    let a : nat_le 1 n ≡ true = grind (arith, nat_tests, s.0) in let b : nat_le n 4096 ≡ true = grind (arith, nat_tests, s.1) in rw (a, b)

place_test : (z : ℤ) → IsPlace z → is_place z ≡ true
place_test z p =
    let a : int_le (neg_ℤ (pos 65536)) z ≡ true = grind (arith, ints, p.0) in let b : int_le z (pos 65536) ≡ true = grind (arith, ints, p.1) in rw (a, b)

no_magic_lacks : (d : Raw) → lacks_magic (level_bytes d) ≡ false
unfolding lacks_magic
no_magic_lacks d = refl

known_kind : (d : Raw) → has_unknown_kind (level_bytes d) ≡ false
unfolding has_unknown_kind
known_kind d =
    elim d.kind as (λ k. (nat_lt 4 (length (level_bytes d)) && nat_lt 1 (kind_byte k)) ≡ false)
    [ Colour ↦ grind (arith, nat_tests) | Cm32 ↦ grind (arith, nat_tests) ]

own_kind : (d : Raw) → has_other_kind d.kind (level_bytes d) ≡ false
unfolding has_other_kind
own_kind d =
    elim d.kind as (λ k. (nat_lt 4 (length (level_bytes d)) && not (kind_byte k == kind_byte k)) ≡ false)
    [ Colour ↦ grind (arith, nat_tests) | Cm32 ↦ grind (arith, nat_tests) ]

right_sides : (d : Raw) → IsRaw d → has_wrong_side (level_bytes d) ≡ false
unfolding has_wrong_side
right_sides d good =
    let w = number_of_four d.w (omega (arith, good.side_w)) in
    let h = number_of_four d.h (omega (arith, good.side_h)) in
    rw (w, h, side_test d.w good.side_w, side_test d.h good.side_h) (grind (arith, nat_tests))

right_place : (d : Raw) → IsRaw d → has_wrong_place (level_bytes d) ≡ false
unfolding has_wrong_place
right_place d good =
    rw (place_back d.x0 good.place_x, place_back d.y0 good.place_y, place_test d.x0 good.place_x, place_test d.y0 good.place_y) (grind (arith, nat_tests))

right_length : (d : Raw) → IsRaw d → has_wrong_length (level_bytes d) ≡ false
unfolding has_wrong_length
right_length d good =
    let w = number_of_four d.w (omega (arith, good.side_w)) in
    let h = number_of_four d.h (omega (arith, good.side_h)) in
    rw (w, h) (grind (arith, nat_tests, good.whole))

no_fault_from_fills : (kind : RawKind) (bytes : List ℕ) → Fills kind bytes → unmultiplied_fault kind bytes ≡ None
no_fault_from_fills Colour bytes fills = rw (none_from_fills 0 _ fills)
no_fault_from_fills Cm32 bytes fills = refl

pub accepted : (d : Raw) → IsRaw d → first_fault d.kind (level_bytes d) ≡ None
unfolding first_fault
accepted d good =
    rw (no_magic_lacks d, known_kind d, own_kind d, right_sides d good, right_place d good, right_length d good) (no_fault_from_fills d.kind d.bytes good.fills)

-- the number of four bytes gives them back
plain_back : (a b c d : ℕ) → a < 256 → b < 256 → c < 256 → d < 256 → four_bytes (a + 256 * b + 65536 * c + 16777216 * d) ≡ a ∷ b ∷ c ∷ d ∷ []
plain_back a b c d la lb lc ld =
    let n = a + 256 * b + 65536 * c + 16777216 * d in
    let p : n % 256 ≡ a = omega arith in
    let q : n / 256 % 256 ≡ b = omega arith in
    let r : n / 65536 % 256 ≡ c = omega arith in
    let t : n / 16777216 % 256 ≡ d = omega arith in
    rw (p, q, r, t)

four_back : (a b c d : ℕ) → a < 256 → b < 256 → c < 256 → d < 256
    → four_bytes (of_z w32 (to_z w32 (a + 256 * b + 65536 * c + 16777216 * d))) ≡ a ∷ b ∷ c ∷ d ∷ []
four_back a b c d la lb lc ld =
    let n = a + 256 * b + 65536 * c + 16777216 * d in
    ap four_bytes (of_z-to_z w32 n (omega arith)) ∙ plain_back a b c d la lb lc ld

joined : (k k' : ℕ) (xs xs' ys ys' ws ws' hs hs' rest : List ℕ) → k ≡ k' → xs ≡ xs' → ys ≡ ys' → ws ≡ ws' → hs ≡ hs'
    → magic ++ (k ∷ xs) ++ ys ++ ws ++ hs ++ rest ≡ magic ++ (k' ∷ xs') ++ ys' ++ ws' ++ hs' ++ rest
joined k k' xs xs' ys ys' ws ws' hs hs' rest ek ex ey ew eh = rw (ek, ex, ey, ew, eh)

-- the letters that a file begins with
begins : (m0 m1 m2 m3 : ℕ) (rest : List ℕ) → lacks_magic (m0 ∷ m1 ∷ m2 ∷ m3 ∷ rest) ≡ false → (m0 ≡ 88) × (m1 ≡ 82) × (m2 ≡ 76) × (m3 ≡ 49)
unfolding lacks_magic
begins m0 m1 m2 m3 rest h =
    let all : (88 == m0 && (82 == m1 && (76 == m2 && (49 == m3 && true)))) ≡ true = not-false _ h in
    let a = and_parts (88 == m0) (82 == m1 && (76 == m2 && (49 == m3 && true))) all in
    let b = and_parts (82 == m1) (76 == m2 && (49 == m3 && true)) a.1 in
    let c = and_parts (76 == m2) (49 == m3 && true) b.1 in
    let d = and_parts (49 == m3) true c.1 in
    (grind (arith, nat_tests, a.0), grind (arith, nat_tests, b.0), grind (arith, nat_tests, c.0), grind (arith, nat_tests, d.0))

kind_told : (kind : RawKind) (bytes : List ℕ) → 21 ≤ length bytes → has_other_kind kind bytes ≡ false → slice_index bytes 4 ≡ kind_byte kind
unfolding has_other_kind
kind_told kind bytes long h =
    let there : nat_lt 4 (length bytes) ≡ true = grind (arith, nat_tests) in
    let same = not-false _ (rw there at h) in
    grind (arith, nat_tests, same)

-- a file without a fault is the file of the drawing that it holds
pub no_other : (kind : RawKind) (bytes : List ℕ) → Each1 (λ b. b < 256) bytes → first_fault kind bytes ≡ None → level_bytes (raw_of kind bytes) ≡ bytes
no_other kind (m0 ∷ m1 ∷ m2 ∷ m3 ∷ k ∷ a0 ∷ a1 ∷ a2 ∷ a3 ∷ b0 ∷ b1 ∷ b2 ∷ b3 ∷ c0 ∷ c1 ∷ c2 ∷ c3 ∷ d0 ∷ d1 ∷ d2 ∷ d3 ∷ rest) bound h =
    let p = passes kind (m0 ∷ m1 ∷ m2 ∷ m3 ∷ k ∷ a0 ∷ a1 ∷ a2 ∷ a3 ∷ b0 ∷ b1 ∷ b2 ∷ b3 ∷ c0 ∷ c1 ∷ c2 ∷ c3 ∷ d0 ∷ d1 ∷ d2 ∷ d3 ∷ rest) h in
    let letters = begins m0 m1 m2 m3 _ p.magic in
    let byte =
    kind_told kind (m0 ∷ m1 ∷ m2 ∷ m3 ∷ k ∷ a0 ∷ a1 ∷ a2 ∷ a3 ∷ b0 ∷ b1 ∷ b2 ∷ b3 ∷ c0 ∷ c1 ∷ c2 ∷ c3 ∷ d0 ∷ d1 ∷ d2 ∷ d3 ∷ rest)
    (omega arith) p.same_kind
    in
    let x = bound.1.1.1.1.1 in
    let y = x.1.1.1.1 in
    let w = y.1.1.1.1 in
    let t = w.1.1.1.1 in
    rw (letters.0, letters.1, letters.2, letters.3)
    (joined (kind_byte kind) k _ (a0 ∷ a1 ∷ a2 ∷ a3 ∷ []) _ (b0 ∷ b1 ∷ b2 ∷ b3 ∷ []) _ (c0 ∷ c1 ∷ c2 ∷ c3 ∷ []) _ (d0 ∷ d1 ∷ d2 ∷ d3 ∷ []) rest (sym byte)
    (four_back a0 a1 a2 a3 x.0 x.1.0 x.1.1.0 x.1.1.1.0) (four_back b0 b1 b2 b3 y.0 y.1.0 y.1.1.0 y.1.1.1.0)
    (plain_back c0 c1 c2 c3 w.0 w.1.0 w.1.1.0 w.1.1.1.0) (plain_back d0 d1 d2 d3 t.0 t.1.0 t.1.1.0 t.1.1.1.0))
no_other kind bytes bound h = let long = (long_enough bytes (passes kind bytes h).whole).0 in absurd (omega (arith, long))
