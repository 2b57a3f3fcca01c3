use Rattle.std.specs.Prelude.{ℕ, zero, suc, ◌-◌, nat_le, nat_lt, Option, Some, None, ℤ, pos, ◌+ℤ◌, ◌-ℤ◌, ◌*ℤ◌, ◌≤ℤ◌, ◌⊎◌, List, [], filter, slice_index_or, if◌then◌else◌}
use Rattle.xs_base.specs.declared.limits.TheConstants.{LONGEST_PEG_CHAIN}
use Rattle.std.specs.Int.{int_div_euclid}
use Rattle.xs_scene.specs.Records.{PegRecord, PegKeyRecord, SheetRecord}
use Rattle.xs_meaning.specs.Keys.{latest, earliest}
use Rattle.xs_pixel.specs.Points.{Point, point, origin, plus}

-- the key in force at a row: of those at or before it, the one with the greatest row
abbrev pub key_in_force : List PegKeyRecord → ℕ → Option PegKeyRecord
key_in_force keys row = latest (λ k. k.row) (filter (λ k. nat_le k.row row) keys)

-- the key after a row: of those with a greater row, the one with the least row
abbrev pub key_after : List PegKeyRecord → ℕ → Option PegKeyRecord
key_after keys row = earliest (λ k. k.row) (filter (λ k. nat_lt row k.row) keys)

-- a coordinate on the straight line from one key's to another's, rounded down: `done` of `whole` rows
-- have gone by
unfoldable pub on_line : ℤ → ℤ → ℕ → ℕ → ℤ
on_line from to done whole = from +ℤ int_div_euclid ((to -ℤ from) *ℤ pos done) (pos whole)

-- x lies between a and b, whichever is the greater
abbrev pub LiesBetween : ℤ → ℤ → ℤ → Type 0
LiesBetween a b x = ((a ≤ℤ x) × (x ≤ℤ b)) ⊎ ((b ≤ℤ x) × (x ≤ℤ a))

-- the offset that a key gives at a row, with the key after the row: a key holds, and a line key moves
-- in a straight line to the next one, if there is one
abbrev pub offset_from : PegKeyRecord → Option PegKeyRecord → ℕ → Point
offset_from a None row = point a.x a.y
offset_from a (Some b) row =
    if a.line
    then point (on_line a.x b.x (row - a.row) (b.row - a.row)) (on_line a.y b.y (row - a.row) (b.row - a.row))
    else point a.x a.y

abbrev pub offset_by : Option PegKeyRecord → Option PegKeyRecord → ℕ → Point
offset_by None next row = origin
offset_by (Some a) next row = offset_from a next row

-- a peg's own offset at a row: (0, 0) before its first key
unfoldable pub own_offset : List PegKeyRecord → ℕ → Point
own_offset keys row = offset_by (key_in_force keys row) (key_after keys row) row

abbrev pub no_peg : PegRecord
no_peg = record { parent = None; keys = [] }

abbrev pub peg_at : SheetRecord → ℕ → PegRecord
peg_at k i = slice_index_or k.pegs i no_peg

-- the sum of the own offsets of a peg and its parents, as far as so many pegs
unfoldable pub place_up : ℕ → SheetRecord → Option ℕ → ℕ → Point
place_up zero k peg row = origin
place_up (suc n) k None row = origin
place_up (suc n) k (Some i) row =
    plus (own_offset (peg_at k i).keys row) (place_up n k (peg_at k i).parent row)

-- the place of a peg at a row: the sum of its own offset and those of all its parents. A chain has at
-- most `LONGEST_PEG_CHAIN` pegs. Without a peg it is (0, 0)
abbrev pub place_of : SheetRecord → Option ℕ → ℕ → Point
place_of k peg row = place_up LONGEST_PEG_CHAIN k peg row
