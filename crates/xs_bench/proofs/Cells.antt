-- The bytes of an area that were copied from a drawing, and the items that they are read as.
use Rattle.std.proofs.Common.{◌≡◌, ℕ, zero, suc, ◌+◌, ◌-◌, ◌*◌, ◌<◌, ◌≤◌, ℤ, ◌+ℤ◌, ◌-ℤ◌, unsigned_abs, Bool, true, false, List, [], ◌∷◌, length, replicate, get_or, refl, sym, ap, ◌∙◌, w32, to_z, of_z, inl, inr, arith}
use Rattle.std.proofs.lemmas.Bool.{cases_Bool, cases_lt, false≢true}
use Rattle.std.proofs.lemmas.Int.{ints, fits_signed_from_abs, to_z-of_z}
use Rattle.std.proofs.lemmas.List.{get_or_past, get_or-replicate}
use Rattle.std.proofs.lemmas.Simd.{length-replicate}
use Rattle.xs_base.proofs.ByFours.{ReadsFours}
use Rattle.xs_pixel.specs.Picture.{at_point, is_in_box, place_in_box}
use Rattle.xs_pixel.specs.Points.{Point}
use Rattle.xs_rect.specs.Area.{Area, Holds, Lies}
use Rattle.xs_raster.specs.Bitmap.{place_of}
use Rattle.xs_rawfile.specs.Raw.{IsPlace, Raw}
use Rattle.xs_plan.specs.Valid.{IsOffset}
use Rattle.xs_rawfile.specs.Held.{plain_picture}
use Rattle.xs_bench.specs.declared.overlap.Overlap.{Overlap}
use Rattle.xs_bench.specs.declared.shared.Shared.{Shared}
use Rattle.xs_bench.specs.Cells.{AreShared, Copied, HoldBytes, IsOverlap, LiesApart}
use Rattle.xs_bench.proofs.Boxes.{box_lies, box_place, lies_in_box}

-- ---- bytes of points

-- a place of both rows, by its number in each
shared_place :
    (outer : ℤ) (outer_len : ℕ) (inner : ℤ) (inner_len : ℕ) (s : Shared) (z : ℤ) → AreShared outer outer_len inner inner_len s
    → Lies outer outer_len z → Lies inner inner_len z
    → (s.at ≤ unsigned_abs (z -ℤ outer)) × (unsigned_abs (z -ℤ outer) < s.at + s.len)
    × (unsigned_abs (z -ℤ inner) ≡ s.from + (unsigned_abs (z -ℤ outer) - s.at))
shared_place outer outer_len inner inner_len s z are on in_inner =
    let place = are.all z on in_inner in
    let shift = are.shift in
    (omega (arith, ints, place.least, on.least), omega (arith, ints, place.below, on.least), omega (arith, ints, place.least, on.least, in_inner.least))

-- a place with a shared number lies in both rows
place_shared :
    (outer : ℤ) (outer_len : ℕ) (inner : ℤ) (inner_len : ℕ) (s : Shared) (z : ℤ) → AreShared outer outer_len inner inner_len s
    → Lies outer outer_len z → s.at ≤ unsigned_abs (z -ℤ outer) → unsigned_abs (z -ℤ outer) < s.at + s.len → Lies inner inner_len z
place_shared outer outer_len inner inner_len s z are on from to =
    let inside = are.inside (omega arith) in
    let shift = are.shift in
    record { least = omega (arith, ints, on.least); below = omega (arith, ints, on.least, inside.1) }

-- a part of four bytes for each place
abbrev pub fours : Shared → Shared
fours s = record { at = 4 * s.at; from = 4 * s.from; len = 4 * s.len }

regrouped : (z d corner : ℤ) → z -ℤ d -ℤ corner ≡ z -ℤ (corner +ℤ d)
regrouped z d corner = omega (arith, ints)

zero_at : (n k : ℕ) → ◌≡◌ {A = ℕ} (get_or (replicate n 0) k 0) 0
zero_at n k = elim (cases_lt k n) [
  | inl below ↦ get_or-replicate n k 0 0 below
  | inr past ↦ get_or_past (replicate n 0) k 0 (omega (arith, length-replicate {A = ℕ} n 0))
]

module _ (on : Area) (g : Raw) (to : Point) (o : Overlap) (over : IsOverlap on g to o) (n : ℕ) (bytes : List ℕ)
    (copied : Copied g.bytes (4 * g.w) (4 * on.w) (fours o.across) o.up o.up.len (replicate n 0) bytes) where
  abbrev row : ℤ → ℕ
  row y = unsigned_abs (y -ℤ on.y)

  abbrev column : ℤ → ℕ
  column x = unsigned_abs (x -ℤ on.x)

  index : (x y : ℤ) (b : ℕ) → 4 * place_of on x y + b ≡ row y * (4 * on.w) + (4 * column x + b)
  unfolding place_in_box
  index x y b = omega arith

  moved : (corner d : ℤ) (len : ℕ) (z : ℤ) → Lies corner len (z -ℤ d) → Lies (corner +ℤ d) len z
  moved corner d len z lies = record { least = omega (arith, ints, lies.least); below = omega (arith, ints, lies.below) }

  back : (corner d : ℤ) (len : ℕ) (z : ℤ) → Lies (corner +ℤ d) len z → Lies corner len (z -ℤ d)
  back corner d len z lies = record { least = omega (arith, ints, lies.least); below = omega (arith, ints, lies.below) }

  -- a byte of a point of the box
  byte_inside :
      (x y : ℤ) (b : ℕ) → Holds on x y → b < 4 → is_in_box g.x0 g.y0 g.w g.h (x -ℤ to.x) (y -ℤ to.y) ≡ true
      → get_or bytes (4 * place_of on x y + b) 0 ≡ get_or g.bytes (4 * place_in_box g.x0 g.y0 g.w (x -ℤ to.x) (y -ℤ to.y) + b) 0
  unfolding place_in_box
  byte_inside x y b held below inside =
      let lies = box_lies g.x0 g.y0 g.w g.h (x -ℤ to.x) (y -ℤ to.y) inside in
      let across = shared_place on.x on.w (g.x0 +ℤ to.x) g.w o.across x over.across held.across (moved g.x0 to.x g.w x lies.0) in
      let up = shared_place on.y on.h (g.y0 +ℤ to.y) g.h o.up y over.up held.up (moved g.y0 to.y g.h y lies.1) in
      let right = ap unsigned_abs (regrouped x to.x g.x0) in
      let high = ap unsigned_abs (regrouped y to.y g.y0) in
      let r = row y in
      let c = 4 * column x + b in
      ap (λ (k : ℕ). get_or bytes k 0) (index x y b)
      ∙ copied.inside r c (up.0, up.1, omega (arith, across.0), omega (arith, across.1))
      ∙ ap (λ (k : ℕ). get_or g.bytes k 0)
      (rw (right, high, across.2, up.2)
      (place_same (o.up.from + (r - o.up.at)) (o.across.from + (column x - o.across.at)) (4 * o.across.from + (c - 4 * o.across.at)) b g.w
      (omega (arith, across.0))))
    where
      place_same : (r c place b w : ℕ) → place ≡ 4 * c + b → r * (4 * w) + place ≡ 4 * (r * w + c) + b
      place_same r c place b w is = omega arith

  -- and of one beyond it
  byte_outside :
      (x y : ℤ) (b : ℕ) → Holds on x y → b < 4 → is_in_box g.x0 g.y0 g.w g.h (x -ℤ to.x) (y -ℤ to.y) ≡ false
      → get_or bytes (4 * place_of on x y + b) 0 ≡ 0
  byte_outside x y b held below outside =
      ap (λ (k : ℕ). get_or bytes k 0) (index x y b)
      ∙ copied.outside (row y) (4 * column x + b) (omega (arith, ints, held.across.least, held.across.below))
      (λ shared.
      let across = place_shared on.x on.w (g.x0 +ℤ to.x) g.w o.across x over.across held.across (omega (arith, shared.2)) (omega (arith, shared.3)) in
      let up = place_shared on.y on.h (g.y0 +ℤ to.y) g.h o.up y over.up held.up shared.0 shared.1 in
      false≢true (sym outside ∙ lies_in_box g.x0 g.y0 g.w g.h (x -ℤ to.x) (y -ℤ to.y) (back g.x0 to.x g.w x across) (back g.y0 to.y g.h y up)))
      ∙ zero_at n (row y * (4 * on.w) + (4 * column x + b))

  pub bytes_held : length bytes ≡ 4 * (on.w * on.h) → HoldBytes on g to bytes
  bytes_held whole = record {
    whole = whole;
    each = λ x y b held below.
        elim (cases_Bool (is_in_box g.x0 g.y0 g.w g.h (x -ℤ to.x) (y -ℤ to.y))) [
          | inl inside ↦ rw inside (byte_inside x y b held below inside)
          | inr outside ↦ rw outside (byte_outside x y b held below outside)
        ];
  }

-- ---- items of four bytes

module _ {A : Type 0} (item : ℕ → ℕ → ℕ → ℕ → A) (read : List ℕ → List A) (reads : ReadsFours item read) (none : A)
    (blank : item 0 0 0 0 ≡ none) where
  skip : (c c' r g b m : ℕ) (rest : List ℕ) → c' ≡ 4 + c → get_or (r ∷ g ∷ b ∷ m ∷ rest) c' 0 ≡ get_or rest c 0
  skip c c' r g b m rest is = let e : c' ≡ suc (suc (suc (suc c))) = omega arith in rw e refl

  same_item : (r g b m r' g' b' m' : ℕ) → r ≡ r' → g ≡ g' → b ≡ b' → m ≡ m' → item r g b m ≡ item r' g' b' m'
  same_item r g b m r' g' b' m' first second third fourth = rw (first, second, third, fourth) refl

  item-at :
      (k : ℕ) (bytes : List ℕ) → 4 * k + 4 ≤ length bytes
      → get_or (read bytes) k none ≡ item (get_or bytes (4 * k + 0) 0) (get_or bytes (4 * k + 1) 0) (get_or bytes (4 * k + 2) 0) (get_or bytes (4 * k + 3) 0)
  item-at k [] there = absurd (omega arith)
  item-at k (r ∷ []) there = absurd (omega arith)
  item-at k (r ∷ g ∷ []) there = absurd (omega arith)
  item-at k (r ∷ g ∷ b ∷ []) there = absurd (omega arith)
  item-at zero (r ∷ g ∷ b ∷ m ∷ rest) there = rw (reads.four r g b m rest) refl
  item-at (suc k) (r ∷ g ∷ b ∷ m ∷ rest) there =
      ap (λ (l : List A). get_or l (suc k) none) (reads.four r g b m rest)
      ∙ item-at k rest (omega arith)
      ∙ sym (same_item _ _ _ _ _ _ _ _
      (skip (4 * k + 0) (4 * suc k + 0) r g b m rest (omega arith)) (skip (4 * k + 1) (4 * suc k + 1) r g b m rest (omega arith))
      (skip (4 * k + 2) (4 * suc k + 2) r g b m rest (omega arith)) (skip (4 * k + 3) (4 * suc k + 3) r g b m rest (omega arith)))

  -- the item at a point of an area is that of the drawing's point
  pub item_held :
      (on : Area) (g : Raw) (to : Point) (bytes : List ℕ) → HoldBytes on g to bytes → length g.bytes ≡ 4 * (g.w * g.h)
      → (x y : ℤ) → Holds on x y → place_of on x y < on.w * on.h
      → get_or (read bytes) (place_of on x y) none ≡ at_point (plain_picture g) (read g.bytes) none (x -ℤ to.x) (y -ℤ to.y)
  unfolding at_point
  item_held on g to bytes hold whole x y held below =
      item-at (place_of on x y) bytes (omega (arith, hold.whole))
      ∙ same_item _ _ _ _ _ _ _ _ (hold.each x y 0 held (omega arith)) (hold.each x y 1 held (omega arith))
      (hold.each x y 2 held (omega arith)) (hold.each x y 3 held (omega arith))
      ∙ elim (cases_Bool (is_in_box g.x0 g.y0 g.w g.h (x -ℤ to.x) (y -ℤ to.y))) [
        | inl inside ↦
            let lies = box_lies g.x0 g.y0 g.w g.h (x -ℤ to.x) (y -ℤ to.y) inside in
            let place = box_place g.x0 g.y0 g.w g.h (x -ℤ to.x) (y -ℤ to.y) lies.0 lies.1 in
            rw inside (sym (item-at (place_in_box g.x0 g.y0 g.w (x -ℤ to.x) (y -ℤ to.y)) g.bytes (omega (arith, place))))
        | inr outside ↦ rw outside blank
      ]

-- ---- areas and boxes that lie apart

apart_by :
    (corner d : ℤ) (len : ℕ) (outer : ℤ) (outer_len : ℕ) (s : Shared) (z : ℤ) → AreShared outer outer_len (corner +ℤ d) len s → s.len ≡ 0
    → Lies outer outer_len z → Lies corner len (z -ℤ d) → ⊥
apart_by corner d len outer outer_len s z are none on lies =
    let in_box : Lies (corner +ℤ d) len z = record { least = omega (arith, ints, lies.least); below = omega (arith, ints, lies.below) } in
    let place = are.all z on in_box in
    omega (arith, ints, place.least, place.below)

not_true : (b : Bool) → (b ≡ true → ⊥) → b ≡ false
not_true true never = absurd (never refl)
not_true false never = refl

pub apart_across :
    (on : Area) (g : Raw) (to : Point) (s : Shared) → AreShared on.x on.w (g.x0 +ℤ to.x) g.w s → s.len ≡ 0 → LiesApart on g to
apart_across on g to s are none x y held =
    not_true (is_in_box g.x0 g.y0 g.w g.h (x -ℤ to.x) (y -ℤ to.y))
    (λ inside. apart_by g.x0 to.x g.w on.x on.w s x are none held.across (box_lies g.x0 g.y0 g.w g.h (x -ℤ to.x) (y -ℤ to.y) inside).0)

pub apart_up :
    (on : Area) (g : Raw) (to : Point) (s : Shared) → AreShared on.y on.h (g.y0 +ℤ to.y) g.h s → s.len ≡ 0 → LiesApart on g to
apart_up on g to s are none x y held =
    not_true (is_in_box g.x0 g.y0 g.w g.h (x -ℤ to.x) (y -ℤ to.y))
    (λ inside. apart_by g.y0 to.y g.h on.y on.h s y are none held.up (box_lies g.x0 g.y0 g.w g.h (x -ℤ to.x) (y -ℤ to.y) inside).1)

-- a place of a drawing's corner that an offset moves, as it is computed
pub corner_moved : (corner d : ℤ) → IsPlace corner → IsOffset d → to_z w32 (of_z w32 (to_z w32 (of_z w32 corner) +ℤ to_z w32 (of_z w32 d))) ≡ corner +ℤ d
corner_moved corner d place offset =
    let start = to_z-of_z w32 corner (fits_signed_from_abs w32 corner (omega (arith, ints, place.0, place.1))) in
    let step = to_z-of_z w32 d (fits_signed_from_abs w32 d (omega (arith, ints, offset.0, offset.1))) in
    let all = to_z-of_z w32 (corner +ℤ d) (fits_signed_from_abs w32 (corner +ℤ d) (omega (arith, ints, place.0, place.1, offset.0, offset.1))) in
    rw (start, step, all) refl
