-- A peg's own offset by its keys, and its place by its parent's
use Rattle.std.proofs.Common.{◌≡◌, ℕ, zero, suc, ◌-◌, List, [], Option, Some, None, MatchOption, refl, ap, ◌∙◌, arith}
use Rattle.xs_scene.specs.Records.{SheetRecord, PegKeyRecord}
use Rattle.xs_meaning.specs.Places.{own_offset, offset_by, offset_from, key_in_force, key_after, place_up, peg_at}
use Rattle.xs_pixel.specs.Points.{Point, origin, plus}

-- an own offset by the keys that are chosen
pub own_offset-none : (keys : List PegKeyRecord) (row : ℕ) → None ≡ key_in_force keys row → origin ≡ own_offset keys row
unfolding own_offset
own_offset-none keys row none = ap (λ o. offset_by o (key_after keys row) row) none

pub own_offset-some :
    (keys : List PegKeyRecord) (row : ℕ) (key : PegKeyRecord) (next : Option PegKeyRecord) (at : Point)
    → Some key ≡ key_in_force keys row → next ≡ key_after keys row → at ≡ offset_from key next row → at ≡ own_offset keys row
unfolding own_offset
own_offset-some keys row key next at now after is =
    is ∙ ap (λ o. offset_from key o row) after ∙ ap (λ o. offset_by o (key_after keys row) row) now

-- a peg that has no keys
pub own_offset-nil : (row : ℕ) → origin ≡ own_offset [] row
unfolding own_offset
own_offset-nil row = refl

-- the place of a peg as far as no peg, and as far as one more peg
pub place_up-zero : (k : SheetRecord) (peg : Option ℕ) (row most : ℕ) → most ≡ 0 → origin ≡ place_up most k peg row
unfolding place_up
place_up-zero k peg row zero none = refl
place_up-zero k peg row (suc n) none = absurd (omega arith)

pub place_up-step : (k : SheetRecord) (row most : ℕ) (peg : Option ℕ) → (most ≡ 0 → ⊥)
    → MatchOption peg (origin ≡ place_up most k peg row)
    (λ i. plus (own_offset (peg_at k i).keys row) (place_up (most - 1) k (peg_at k i).parent row) ≡ place_up most k peg row)
unfolding place_up
place_up-step k row zero peg some = absurd (some refl)
place_up-step k row (suc n) None some = refl
place_up-step k row (suc n) (Some i) some =
    ap (λ m. plus (own_offset (peg_at k i).keys row) (place_up m k (peg_at k i).parent row)) (let e : suc n - 1 ≡ n = omega arith in e)
