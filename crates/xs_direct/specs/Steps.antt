use Rattle.std.specs.Prelude.{◌≡◌, ℕ, ◌+◌, ◌*◌, ◌-◌, ◌<◌, ◌≤◌, length}
use Rattle.xs_base.specs.declared.limits.TheConstants.{MOST_NODES}
use Rattle.xs_step.specs.declared.spot.At.{At}
use Rattle.xs_step.specs.declared.spot.At.TheVariants.{Row, Input}
use Rattle.xs_direct.specs.Room.{room_for, sheet_reach}
use Rattle.xs_direct.specs.Values.{sheet_in}
use Rattle.xs_direct.specs.declared.walk.Walk.{Walk}

-- a walk has gone from a row into its sheet
abbrev pub IsInside : {K : Type 0} → Walk K → Walk K → Type 0
IsInside w v =
    (0 < w.depth) × (length (sheet_in w).nodes ≤ MOST_NODES)
    × (v ≡ record w { depth = w.depth - 1; below = length (sheet_in w).nodes + 1 })

-- it has gone through a column or node
abbrev pub IsBelow : {K : Type 0} → Walk K → Walk K → Type 0
IsBelow w v = (0 < w.below) × (v ≡ record w { below = w.below - 1 })

-- it has made one step from where it stands
abbrev pub IsFurtherFrom : {K : Type 0} → At → Walk K → Walk K → Type 0
IsFurtherFrom Row w v = IsInside w v
IsFurtherFrom (Input n) w v = IsBelow w v

abbrev pub IsFurther : {K : Type 0} → Walk K → Walk K → Type 0
IsFurther w v = IsFurtherFrom w.spot.at w v

-- it may make no step more
abbrev pub IsEndFrom : {K : Type 0} → At → Walk K → Type 0
IsEndFrom Row w = w.depth ≡ 0
IsEndFrom (Input n) w = w.below ≡ 0

abbrev pub IsAtEnd : {K : Type 0} → Walk K → Type 0
IsAtEnd w = IsEndFrom w.spot.at w

-- the room that it needs from a spot on
abbrev pub room_from : At → (depth below : ℕ) → ℕ
room_from Row depth below = sheet_reach * depth
room_from (Input n) depth below = room_for depth below

abbrev pub room_in : {K : Type 0} → Walk K → ℕ
room_in w = room_from w.spot.at w.depth w.below

-- how long it may still be: a nested sheet outweighs the ways through one sheet
abbrev pub length_from : At → (depth below : ℕ) → ℕ
length_from Row depth below = 8192 * depth
length_from (Input n) depth below = 8192 * depth + 16 * below + 8

abbrev pub length_in : {K : Type 0} → Walk K → ℕ
length_in w = length_from w.spot.at w.depth w.below
