use Rattle.std.specs.Prelude.{ℕ, ℤ, pos, ◌+ℤ◌, ◌-ℤ◌, ◌*◌, ◌+◌, List, map, flat_map}
use Rattle.std.specs.List.{range_with_len}

-- a point of the picture, or an offset from one point to another. y points up
pub record Point : Type 0 where
  pub x : ℤ
  pub y : ℤ

abbrev pub point : ℤ → ℤ → Point
point x y = record { x = x; y = y }

abbrev pub origin : Point
origin = point (pos 0) (pos 0)

abbrev pub plus : Point → Point → Point
plus p q = point (p.x +ℤ q.x) (p.y +ℤ q.y)

abbrev pub minus : Point → Point → Point
minus p q = point (p.x -ℤ q.x) (p.y -ℤ q.y)

abbrev pub opposite : Point → Point
opposite p = minus origin p

-- the whole numbers from -n to n
abbrev pub span : ℕ → List ℤ
span n = map (λ k. pos k -ℤ pos n) (range_with_len 0 (2 * n + 1))

-- the offsets (i, j) for i and j from -n to n
abbrev pub square : ℕ → List Point
square n = flat_map (λ j. map (λ i. point i j) (span n)) (span n)
