use Rattle.std.proofs.Common.{◌≡◌, ℕ, ◌*◌, ◌<◌, ℤ, pos, ◌+ℤ◌, ◌-ℤ◌, int_le, int_lt, ◌&&◌, unsigned_abs, true, arith}
use Rattle.std.proofs.lemmas.Bool.{and_parts}
use Rattle.std.proofs.lemmas.Int.{ints}
use Rattle.std.proofs.lemmas.Nat.{mul-add-lt}
use Rattle.xs_pixel.specs.Picture.{is_in_box, place_in_box}

-- how far a place of a row lies from the first one
off_below : (from at : ℤ) (len : ℕ) → (int_le from at && int_lt at (from +ℤ pos len)) ≡ true → unsigned_abs (at -ℤ from) < len
off_below from at len inside = grind (arith, ints)

pub place_below : (x0 y0 : ℤ) (w h : ℕ) (x y : ℤ) → is_in_box x0 y0 w h x y ≡ true → place_in_box x0 y0 w x y < w * h
unfolding place_in_box
place_below x0 y0 w h x y inside =
    let both = and_parts (int_le x0 x && int_lt x (x0 +ℤ pos w)) (int_le y0 y && int_lt y (y0 +ℤ pos h)) inside in
    mul-add-lt (unsigned_abs (y -ℤ y0)) w (unsigned_abs (x -ℤ x0)) h (off_below y0 y h both.1) (off_below x0 x w both.0)
