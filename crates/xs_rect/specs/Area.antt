use Rattle.std.specs.Prelude.{ℕ, ◌+◌, ◌*◌, ◌^◌, ◌≤◌, ℤ, pos, neg_ℤ, ◌+ℤ◌, ◌-ℤ◌, ◌≤ℤ◌, ◌<ℤ◌, ◌↔◌}

-- a rectangle of whole points: the corner with the least x and y, and the sides
pub record Area : Type 0 where
  pub x : ℤ
  pub y : ℤ
  pub w : ℕ
  pub h : ℕ

abbrev pub area : ℤ → ℤ → ℕ → ℕ → Area
area x y w h = record { x = x; y = y; w = w; h = h }

-- the place is one of the len places from `from` on
pub record Lies (from : ℤ) (len : ℕ) (z : ℤ) : Type 0 where
  pub least : from ≤ℤ z
  pub below : z <ℤ (from +ℤ pos len)

-- the point lies in the area
pub record Holds (a : Area) (x y : ℤ) : Type 0 where
  pub across : Lies a.x a.w x
  pub up : Lies a.y a.h y

-- a number of points that a side may have
abbrev pub IsSide : ℕ → Type 0
IsSide n = (1 ≤ n) × (n ≤ 8192)

-- a place that a corner may have along an axis
abbrev pub IsNear : ℤ → Type 0
IsNear z = (neg_ℤ (pos (2 ^ 27)) ≤ℤ z) × (z ≤ℤ pos (2 ^ 27))

-- an area that is small enough and near enough to the origin
pub record IsRect (a : Area) : Type 0 where
  pub near_x : IsNear a.x
  pub near_y : IsNear a.y
  pub side_w : IsSide a.w
  pub side_h : IsSide a.h

-- the points of c are those that both a and b hold
abbrev pub IsCommonPart : Area → Area → Area → Type 0
IsCommonPart a b c = (x y : ℤ) → Holds c x y ↔ (Holds a x y × Holds b x y)

-- no point lies in both
abbrev pub ShareNoPoint : Area → Area → Type 0
ShareNoPoint a b = (x y : ℤ) → Holds a x y → ¬ Holds b x y

-- the len places from `from` on are some of the places of another row
abbrev pub IsPart : ℤ → ℕ → ℤ → ℕ → Type 0
IsPart from len outer outer_len = (outer ≤ℤ from) × ((from +ℤ pos len) ≤ℤ (outer +ℤ pos outer_len))

-- no edge of the inner area lies beyond the outer one
pub record IsWithin (inner outer : Area) : Type 0 where
  pub across : IsPart inner.x inner.w outer.x outer.w
  pub up : IsPart inner.y inner.h outer.y outer.h

-- an area with n more points on each side
abbrev pub grown : Area → ℕ → Area
grown a n = area (a.x -ℤ pos n) (a.y -ℤ pos n) (a.w + 2 * n) (a.h + 2 * n)
