use Rattle.std.specs.Prelude.{ℕ, ◌+◌, ◌*◌, pos, neg_ℤ, ◌+ℤ◌, ◌-ℤ◌, ◌≤ℤ◌}
use Rattle.xs_base.specs.declared.limits.TheConstants.{LONGEST_CAMERA_SIDE, FARTHEST_PLACE, GREATEST_RADIUS}
use Rattle.xs_pixel.specs.Points.{Point}

-- how far from the origin a point may be, along each axis: 2^30
abbrev pub edge : ℕ
edge = 1073741824

-- a point that stays there when it moves by so much, each way
pub record CanMove (room : ℕ) (p : Point) : Type 0 where
  pub left : neg_ℤ (pos edge) ≤ℤ (p.x -ℤ pos room)
  pub right : (p.x +ℤ pos room) ≤ℤ pos edge
  pub bottom : neg_ℤ (pos edge) ≤ℤ (p.y -ℤ pos room)
  pub top : (p.y +ℤ pos room) ≤ℤ pos edge

-- how long the sides of a frame are at most
abbrev pub frame_reach : ℕ
frame_reach = LONGEST_CAMERA_SIDE

-- how far the place of a peg moves a point at most, each way
abbrev pub peg_reach : ℕ
peg_reach = FARTHEST_PLACE

-- and one blur: its greatest radius
abbrev pub blur_reach : ℕ
blur_reach = GREATEST_RADIUS

-- and all of one sheet: the peg of a column, and the blurs on the way to it, of which there are at most 257
abbrev pub sheet_reach : ℕ
sheet_reach = 8388608

-- the room for a column or node, with so many columns and nodes of its sheet and so many nested sheets ahead
abbrev pub room_for : (depth below : ℕ) → ℕ
room_for depth below = sheet_reach * depth + peg_reach + blur_reach * below
