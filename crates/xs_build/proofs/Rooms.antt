-- Where a step leads, and under what offset
use Rattle.std.proofs.Common.{◌≡◌, ◌≤◌, ◌+◌, ◌*◌, ◌-◌, ℕ, zero, suc, Option, Some, None, slice_get, subst, arith}
use Rattle.std.proofs.lemmas.Int.{ints}
use Rattle.xs_pixel.specs.Points.{Point, plus}
use Rattle.xs_scene.specs.declared.seen.Seen.{Seen}
use Rattle.xs_scene.specs.declared.seen.Seen.TheVariants.{Empty, Drawing as SeenDrawing, Row as SeenRow}
use Rattle.xs_scene.specs.declared.node.Ref.{Ref}
use Rattle.xs_scene.specs.declared.node.Ref.TheVariants.{Column as ToColumn, Node as ToNode}
use Rattle.xs_scene.specs.declared.node.Node.{Node}
use Rattle.xs_scene.specs.declared.node.Node.TheVariants.{Pair as PairNode, Card as CardNode, Shuffle, Blur as BlurNode, Keep as KeepNode, Delete as DeleteNode}
use Rattle.xs_scene.specs.Records.{SceneRecord}
use Rattle.xs_meaning.specs.Bounds.{IsWithin}
use Rattle.xs_meaning.specs.Cells.{cell_at}
use Rattle.xs_meaning.specs.Ends.{SheetsEnd, SeenHas}
use Rattle.xs_meaning.specs.Places.{place_of}
use Rattle.xs_meaning.specs.Walk.{sheet_at, column_at}
use Rattle.xs_meaning.proofs.Depth.{seen-ends}
use Rattle.xs_step.specs.declared.spot.At.{At}
use Rattle.xs_step.specs.declared.spot.At.TheVariants.{Row, Input}
use Rattle.xs_step.specs.declared.spot.Spot.{Spot}
use Rattle.xs_step.specs.declared.step.Step.{Step}
use Rattle.xs_step.specs.declared.step.Step.TheVariants.{Clear, Drawing, Nested, Same, Keep, Delete, Pair, Blur, Card, Over}
use Rattle.xs_step.specs.Steps.{step_of_seen, step_of_listed, step_of_node, step_in, step_of, IsBounded}
use Rattle.xs_build.specs.Room.{HasRoom}

plus-within : (a b : ℕ) (p q : Point) → IsWithin a p → IsWithin b q → IsWithin (a + b) (plus p q)
plus-within a b p q first second =
    record {
      left = omega (arith, ints, first.left, second.left);
      right = omega (arith, ints, first.right, second.right);
      bottom = omega (arith, ints, first.bottom, second.bottom);
      top = omega (arith, ints, first.top, second.top);
    }

IsWithin-more : (a b : ℕ) (p : Point) → a ≤ b → IsWithin a p → IsWithin b p
IsWithin-more a b p less near =
    record {
      left = omega (arith, ints, near.left);
      right = omega (arith, ints, near.right);
      bottom = omega (arith, ints, near.bottom);
      top = omega (arith, ints, near.top);
    }

-- each spot to which a step leads has room under the offset under which it stands
abbrev pub RoomIn : SceneRecord → Point → Step → Type 0
RoomIn s o Clear = Unit {0}
RoomIn s o (Drawing level index q) = Unit {0}
RoomIn s o (Nested row q) = HasRoom s row.sheet (plus o q)
RoomIn s o (Same next) = HasRoom s next.sheet o
RoomIn s o (Keep next styles) = HasRoom s next.sheet o
RoomIn s o (Delete next styles) = HasRoom s next.sheet o
RoomIn s o (Pair op first second) = HasRoom s first.sheet o × HasRoom s second.sheet o
RoomIn s o (Blur radius next) = HasRoom s next.sheet o
RoomIn s o (Card style) = Unit {0}
RoomIn s o (Over terminals) = Unit {0}

seen-room :
    (s : SceneRecord) (d far : ℕ) (o q : Point) (seen : Seen) → IsWithin far o → far + 4194304 * (d + 1) ≤ 71303168
    → SeenHas (SheetsEnd s.sheets d) seen → IsBounded (step_of_seen q seen) → RoomIn s o (step_of_seen q seen)
seen-room s d far o q Empty near fits has bounded = tt
seen-room s d far o q (SeenDrawing level index) near fits has bounded = tt
seen-room s d far o q (SeenRow sheet row) near fits has bounded =
    record {
      depth = d;
      ends = has;
      far = far + 4194304;
      near = plus-within far 4194304 o q near bounded;
      fits = omega arith;
    }

column-room :
    (s : SceneRecord) (k c row depth far : ℕ) (o q : Point) → SheetsEnd s.sheets depth k → IsWithin far o
    → far + 4194304 * depth ≤ 71303168
    → IsBounded (step_of_seen q (cell_at (column_at (sheet_at s.sheets k) c) row))
    → RoomIn s o (step_of_seen q (cell_at (column_at (sheet_at s.sheets k) c) row))
unfolding SheetsEnd
column-room s k c row zero far o q ends near fits bounded = absurd ends
column-room s k c row (suc d) far o q ends near fits bounded =
    seen-room s d far o q (cell_at (column_at (sheet_at s.sheets k) c) row) near (omega arith)
    (seen-ends s.sheets d k c row
    (subst (λ (m : ℕ). SheetsEnd s.sheets m k) (let e : suc d ≡ d + 1 = omega arith in e) ends))
    bounded

listed-room :
    (s : SceneRecord) (k : ℕ) (o : Point) (input : Ref) (listed : Option ℕ) → HasRoom s k o → RoomIn s o (step_of_listed k input listed)
listed-room s k o input None room = tt
listed-room s k o input (Some row) room = room

node-room :
    (s : SceneRecord) (k row : ℕ) (o : Point) (node : Option Node) → HasRoom s k o → RoomIn s o (step_of_node k row node)
node-room s k row o None room = tt
node-room s k row o (Some (PairNode op first second)) room = (room, room)
node-room s k row o (Some (CardNode style)) room = tt
node-room s k row o (Some (Shuffle input list)) room = listed-room s k o input (slice_get list (row - 1)) room
node-room s k row o (Some (BlurNode input radius)) room = room
node-room s k row o (Some (KeepNode input styles)) room = room
node-room s k row o (Some (DeleteNode input styles)) room = room

room-in :
    (s : SceneRecord) (k : ℕ) (at : At) (row : ℕ) (o : Point) → HasRoom s k o → IsBounded (step_in s k at row)
    → RoomIn s o (step_in s k at row)
room-in s k Row row o room bounded = tt
room-in s k (Input (ToColumn c)) row o room bounded =
    column-room s k c row room.depth room.far o
    (place_of (sheet_at s.sheets k) (column_at (sheet_at s.sheets k) c).peg row) room.ends room.near room.fits bounded
room-in s k (Input (ToNode n)) row o room bounded = node-room s k row o (slice_get (sheet_at s.sheets k).nodes n) room

pub room-step :
    (s : SceneRecord) (p : Spot) (o : Point) → HasRoom s p.sheet o → IsBounded (step_of s p) → RoomIn s o (step_of s p)
unfolding step_of
room-step s p o room bounded = room-in s p.sheet p.at p.row o room bounded

-- an offset that has room is not far
pub room-near : (s : SceneRecord) (k : ℕ) (o : Point) → HasRoom s k o → IsWithin 71303168 o
room-near s k o room = IsWithin-more room.far 71303168 o (omega (arith, room.fits)) room.near
