-- Points of boxes and of areas.
use Rattle.std.proofs.Common.{◌≡◌, ℕ, ◌*◌, ◌/◌, ◌%◌, ◌<◌, ℤ, pos, ◌+ℤ◌, ◌-ℤ◌, ◌≤ℤ◌, ◌<ℤ◌, int_le, int_lt, ◌&&◌, unsigned_abs, Bool, true, refl, arith}
use Rattle.std.proofs.lemmas.Bool.{and_parts}
use Rattle.std.proofs.lemmas.Int.{ints}
use Rattle.std.proofs.lemmas.Nat.{mul-add-lt, div_below, mod_below, div-add-mod'}
use Rattle.xs_pixel.specs.Picture.{is_in_box, place_in_box}
use Rattle.xs_rect.specs.Area.{Area, Holds, Lies}
use Rattle.xs_raster.specs.Bitmap.{place_of}

within : (from at : ℤ) (len : ℕ) → (int_le from at && int_lt at (from +ℤ pos len)) ≡ true → (from ≤ℤ at) × (at <ℤ (from +ℤ pos len))
within from at len inside =
    let both = and_parts (int_le from at) (int_lt at (from +ℤ pos len)) inside in
    (grind (arith, ints), grind (arith, ints))

inside_from : (from at : ℤ) (len : ℕ) → from ≤ℤ at → at <ℤ (from +ℤ pos len) → (int_le from at && int_lt at (from +ℤ pos len)) ≡ true
inside_from from at len least below = grind (arith, ints)

-- a point of the box lies along both of its sides
pub box_lies :
    (x0 y0 : ℤ) (w h : ℕ) (x y : ℤ) → is_in_box x0 y0 w h x y ≡ true → Lies x0 w x × Lies y0 h y
box_lies x0 y0 w h x y inside =
    let both = and_parts (int_le x0 x && int_lt x (x0 +ℤ pos w)) (int_le y0 y && int_lt y (y0 +ℤ pos h)) inside in
    let across = within x0 x w both.0 in
    let up = within y0 y h both.1 in
    (record { least = across.0; below = across.1 }, record { least = up.0; below = up.1 })

both_true : (a b : Bool) → a ≡ true → b ≡ true → (a && b) ≡ true
both_true a b first second = rw (first, second) refl

pub lies_in_box :
    (x0 y0 : ℤ) (w h : ℕ) (x y : ℤ) → Lies x0 w x → Lies y0 h y → is_in_box x0 y0 w h x y ≡ true
lies_in_box x0 y0 w h x y across up =
    both_true (int_le x0 x && int_lt x (x0 +ℤ pos w)) (int_le y0 y && int_lt y (y0 +ℤ pos h))
    (inside_from x0 x w across.least across.below) (inside_from y0 y h up.least up.below)

-- a point of a box has a place among its points
pub box_place : (x0 y0 : ℤ) (w h : ℕ) (x y : ℤ) → Lies x0 w x → Lies y0 h y → place_in_box x0 y0 w x y < w * h
unfolding place_in_box
box_place x0 y0 w h x y across up =
    mul-add-lt (unsigned_abs (y -ℤ y0)) w (unsigned_abs (x -ℤ x0)) h
    (omega (arith, ints, up.least, up.below)) (omega (arith, ints, across.least, across.below))

-- each place among the points of an area is that of a point
pub record IsPointOf (on : Area) (k : ℕ) : Type 0 where
  pub x : ℤ
  pub y : ℤ
  pub held : Holds on x y
  pub place : place_of on x y ≡ k

pub point_of : (on : Area) (k : ℕ) → 0 < on.w → k < on.w * on.h → IsPointOf on k
unfolding place_in_box
point_of on k some below =
    let row = div_below k on.w on.h some (omega arith) in
    let column = mod_below k on.w some in
    let right : unsigned_abs (on.x +ℤ pos (k % on.w) -ℤ on.x) ≡ k % on.w = omega (arith, ints) in
    let high : unsigned_abs (on.y +ℤ pos (k / on.w) -ℤ on.y) ≡ k / on.w = omega (arith, ints) in
    record {
      x = on.x +ℤ pos (k % on.w);
      y = on.y +ℤ pos (k / on.w);
      held = record {
        across = record { least = omega (arith, ints); below = omega (arith, ints) };
        up = record { least = omega (arith, ints); below = omega (arith, ints) };
      };
      place = rw (right, high) (div-add-mod' k on.w);
    }
