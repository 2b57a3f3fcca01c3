use Rattle.std.specs.Prelude.{◌≡◌, ℕ, ◌+◌, ◌-◌, ◌*◌, ◌/◌, ◌%◌, ◌<◌, ◌≤◌, min, ℤ, pos, ◌<ℤ◌, ◌⊎◌, List, length, map, slice_index_or}
use Rattle.std.specs.List.{range_with_len}
use Rattle.std.specs.Int.{div_ceil}
use Rattle.xs_rect.specs.Area.{Area, area, Holds}

-- how many tiles of 64 points a side is cut into, the last perhaps smaller
abbrev pub tiles_along : ℕ → ℕ
tiles_along side = div_ceil side 64

-- the number of the tile of a point: rows of tiles from the lowest up, each from left to right
unfoldable pub tile_of : ℕ → ℕ → ℕ → ℕ
tile_of w x y = y / 64 * tiles_along w + x / 64

-- the frame of w by h points with its lower left corner at the origin
abbrev pub frame : ℕ → ℕ → Area
frame w h = area (pos 0) (pos 0) w h

-- the tile with the number k
unfoldable pub tile_area : ℕ → ℕ → ℕ → Area
tile_area w h k =
    let x = k % tiles_along w * 64 in
    let y = k / tiles_along w * 64 in
    area (pos x) (pos y) (min (w - x) 64) (min (h - y) 64)

-- all tiles of the frame, by their numbers
abbrev pub tile_areas : ℕ → ℕ → List Area
tile_areas w h = map (tile_area w h) (range_with_len 0 (tiles_along w * tiles_along h))

-- a lies in a lower row of tiles than b, or in the same row further left
abbrev pub IsBefore : Area → Area → Type 0
IsBefore a b = (a.y <ℤ b.y) ⊎ ((a.y ≡ b.y) × (a.x <ℤ b.x))

abbrev pub nth : List Area → ℕ → Area
nth tiles k = slice_index_or tiles k (frame 0 0)

-- the tiles cut the frame of w by h: each of its points lies in the tile of its number and in no
-- other, and no other point lies in any
pub record IsCut (w h : ℕ) (tiles : List Area) : Type 0 where
  pub count : length tiles ≡ tiles_along w * tiles_along h
  pub own : (x y : ℕ) → x < w → y < h → (tile_of w x y < length tiles) × Holds (nth tiles (tile_of w x y)) (pos x) (pos y)
  pub only : (k x y : ℕ) → k < length tiles → Holds (nth tiles k) (pos x) (pos y) → tile_of w x y ≡ k
  pub inside : (k : ℕ) (x y : ℤ) → k < length tiles → Holds (nth tiles k) x y → Holds (frame w h) x y
  pub order : (j k : ℕ) → j < k → k < length tiles → IsBefore (nth tiles j) (nth tiles k)
  pub side : (k : ℕ) → k < length tiles → ((nth tiles k).w ≤ 64) × ((nth tiles k).h ≤ 64)
