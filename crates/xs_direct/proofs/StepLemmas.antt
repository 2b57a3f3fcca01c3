-- A step leaves room for the next one, and a shorter way
use Rattle.std.proofs.Common.{ℕ, ◌≡◌, ◌+◌, ◌*◌, ◌-◌, ◌<◌, ◌≤◌, Option, Some, None, List, length, slice_get, refl, subst, sym, ap, arith}
use Rattle.xs_pixel.specs.Points.{Point}
use Rattle.xs_scene.specs.declared.seen.Seen.{Seen}
use Rattle.xs_scene.specs.declared.seen.Seen.TheVariants.{Empty, Drawing as SeenDrawing, Row as SeenRow}
use Rattle.xs_scene.specs.declared.node.Ref.{Ref}
use Rattle.xs_scene.specs.declared.node.Ref.TheVariants.{Column as ToColumn, Node as ToNode}
use Rattle.xs_scene.specs.declared.node.Node.{Node}
use Rattle.xs_scene.specs.declared.node.Node.TheVariants.{Pair, Card, Shuffle, Blur, Keep, Delete}
use Rattle.xs_scene.specs.Records.{SceneRecord}
use Rattle.xs_meaning.specs.Cells.{cell_at}
use Rattle.xs_meaning.specs.Places.{place_of}
use Rattle.xs_meaning.specs.Walk.{sheet_at, column_at}
use Rattle.xs_step.specs.declared.spot.At.{At}
use Rattle.xs_step.specs.declared.spot.At.TheVariants.{Row, Input}
use Rattle.xs_step.specs.declared.spot.Spot.{Spot}
use Rattle.xs_step.specs.declared.step.Step.TheVariants.{Nested}
use Rattle.xs_step.specs.Steps.{step_of_seen, step_of_listed, step_of_node, step_in, step_of}
use Rattle.xs_direct.specs.Room.{blur_reach, peg_reach, room_for, sheet_reach}
use Rattle.xs_direct.specs.Steps.{IsFurther, IsFurtherFrom, room_from, room_in, length_from, length_in}
use Rattle.xs_direct.specs.declared.walk.Walk.{Walk}
use Rattle.xs_direct.proofs.ValueLemmas.{kept}

-- ---- the next spot is there

pub next-there :
    {K : Type 0} (w v u : Walk K) (next : Spot) → IsFurther w v → u ≡ record v { spot = next }
    → next.sheet < length w.scene.now.sheets → u.spot.sheet < length u.scene.now.sheets
next-there w v u next further is there =
    subst (λ (u : Walk _). u.spot.sheet < length u.scene.now.sheets) (sym is)
    (subst (λ scene. next.sheet < length scene) (sym (kept w v (λ v. v.scene.now.sheets) (λ depth below. refl) further)) there)

pub further-there :
    {K : Type 0} (w v : Walk K) → IsFurther w v → w.spot.sheet < length w.scene.now.sheets → v.spot.sheet < length v.scene.now.sheets
further-there w v further there = next-there w v v v.spot further refl
    (subst (λ k. k < length w.scene.now.sheets) (sym (kept w v (λ v. v.spot.sheet) (λ depth below. refl) further)) there)

-- ---- it has room

pub room-from :
    {K : Type 0} (w v : Walk K) (at next : At) → IsFurtherFrom at w v
    → room_from next v.depth v.below + blur_reach ≤ room_from at w.depth w.below
room-from w v Row Row inside =
    subst (λ (v : Walk _). room_from Row v.depth v.below + blur_reach ≤ room_from Row w.depth w.below) (sym inside.2) (omega (arith, inside.0, inside.1))
room-from w v Row (Input n) inside =
    subst (λ (v : Walk _). room_from (Input n) v.depth v.below + blur_reach ≤ room_from Row w.depth w.below) (sym inside.2) (omega (arith, inside.0, inside.1))
room-from w v (Input m) Row below =
    subst (λ (v : Walk _). room_from Row v.depth v.below + blur_reach ≤ room_from (Input m) w.depth w.below) (sym below.1) (omega (arith, below.0))
room-from w v (Input m) (Input n) below =
    subst (λ (v : Walk _). room_from (Input n) v.depth v.below + blur_reach ≤ room_from (Input m) w.depth w.below) (sym below.1) (omega (arith, below.0))

pub next-room :
    {K : Type 0} (w v u : Walk K) (next : Spot) → IsFurther w v → u ≡ record v { spot = next } → room_in u + blur_reach ≤ room_in w
next-room w v u next further is =
    subst (λ u. room_in u + blur_reach ≤ room_in w) (sym is) (room-from w v w.spot.at next.at further)

nested-from : {K : Type 0} (w v : Walk K) (at : At) → IsFurtherFrom at w v → sheet_reach * v.depth + peg_reach ≤ room_from at w.depth w.below
nested-from w v Row inside =
    subst (λ (v : Walk _). sheet_reach * v.depth + peg_reach ≤ room_from Row w.depth w.below) (sym inside.2) (omega (arith, inside.0, inside.1))
nested-from w v (Input m) below =
    subst (λ (v : Walk _). sheet_reach * v.depth + peg_reach ≤ room_from (Input m) w.depth w.below) (sym below.1) (omega (arith, below.0))

pub peg-room : {K : Type 0} (w v : Walk K) → IsFurther w v → peg_reach ≤ room_in w
peg-room w v further = let room = nested-from w v w.spot.at further in omega (arith, room)

-- what a column shows of a nested sheet is a row
row_seen : (seen : Seen) (at offset : Point) (row : Spot) → Nested row offset ≡ step_of_seen at seen → row.at ≡ Row
row_seen Empty at offset row is = absurd (let e : Nested row offset ≡ step_of_seen at Empty = is in cc)
row_seen (SeenDrawing level index) at offset row is = absurd (let e : Nested row offset ≡ step_of_seen at (SeenDrawing level index) = is in cc)
row_seen (SeenRow sheet inner) at offset row is =
    ap (λ (p : Spot). p.at) (let e : Nested row offset ≡ step_of_seen at (SeenRow sheet inner) = is in
    let same : row ≡ record { sheet = sheet; at = Row; row = inner } = cc in same)

no_row_listed : (k : ℕ) (input : Ref) (listed : Option ℕ) (offset : Point) (row : Spot) → Nested row offset ≡ step_of_listed k input listed → ⊥
no_row_listed k input None offset row is = cc
no_row_listed k input (Some listed) offset row is = cc

no_row_node : (k at : ℕ) (node : Option Node) (offset : Point) (row : Spot) → Nested row offset ≡ step_of_node k at node → ⊥
no_row_node k at None offset row is = cc
no_row_node k at (Some (Pair op first second)) offset row is = cc
no_row_node k at (Some (Card style)) offset row is = cc
no_row_node k at (Some (Shuffle input list)) offset row is = no_row_listed k input (slice_get list (at - 1)) offset row is
no_row_node k at (Some (Blur input radius)) offset row is = cc
no_row_node k at (Some (Keep input styles)) offset row is = cc
no_row_node k at (Some (Delete input styles)) offset row is = cc

row_nested : (s : SceneRecord) (k : ℕ) (at : At) (n : ℕ) (offset : Point) (row : Spot) → Nested row offset ≡ step_in s k at n → row.at ≡ Row
row_nested s k Row n offset row is = absurd (let e : Nested row offset ≡ step_in s k Row n = is in cc)
row_nested s k (Input (ToColumn c)) n offset row is =
    row_seen (cell_at (column_at (sheet_at s.sheets k) c) n) (place_of (sheet_at s.sheets k) (column_at (sheet_at s.sheets k) c).peg n) offset row is
row_nested s k (Input (ToNode i)) n offset row is = absurd (no_row_node k n (slice_get (sheet_at s.sheets k).nodes i) offset row is)

pub nested-room :
    {K : Type 0} (w v u : Walk K) (next : Spot) (offset : Point) → IsFurther w v → u ≡ record v { spot = next }
    → Nested next offset ≡ step_of w.scene.now w.spot → room_in u + peg_reach ≤ room_in w
unfolding step_of
nested-room w v u next offset further is nests =
    subst (λ u. room_in u + peg_reach ≤ room_in w) (sym is)
    (subst (λ at. room_from at v.depth v.below + peg_reach ≤ room_in w) (sym (row_nested w.scene.now w.spot.sheet w.spot.at w.spot.row offset next nests))
    (nested-from w v w.spot.at further))

-- ---- and the way from it is shorter

length-from :
    {K : Type 0} (w v : Walk K) (at : At) → IsFurtherFrom at w v → 8192 * v.depth + 16 * v.below + 16 ≤ length_from at w.depth w.below
length-from w v Row inside =
    subst (λ (v : Walk _). 8192 * v.depth + 16 * v.below + 16 ≤ length_from Row w.depth w.below) (sym inside.2) (omega (arith, inside.0, inside.1))
length-from w v (Input m) below =
    subst (λ (v : Walk _). 8192 * v.depth + 16 * v.below + 16 ≤ length_from (Input m) w.depth w.below) (sym below.1) (omega (arith, below.0))

length-most : (at : At) (depth below : ℕ) → length_from at depth below ≤ 8192 * depth + 16 * below + 8
length-most Row depth below = omega arith
length-most (Input n) depth below = omega arith

pub further-length : {K : Type 0} (w v : Walk K) → IsFurther w v → 8192 * v.depth + 16 * v.below + 16 ≤ length_in w
further-length w v further = length-from w v w.spot.at further

pub next-length :
    {K : Type 0} (w v u : Walk K) (next : Spot) → IsFurther w v → u ≡ record v { spot = next } → length_in u + 8 ≤ length_in w
next-length w v u next further is =
    let most = length-most next.at v.depth v.below in
    let shorter = further-length w v further in
    subst (λ u. length_in u + 8 ≤ length_in w) (sym is) (omega (arith, most, shorter))
