-- What a spot of a scene is made of, one step down
use Rattle.std.specs.Prelude.{◌<◌, ◌≤◌, ◌-◌, ℕ, Option, Some, None, All, length, slice_get}
use Rattle.xs_base.specs.declared.limits.TheConstants.{FARTHEST_PLACE, GREATEST_RADIUS}
use Rattle.xs_scene.specs.declared.column.Shown.TheVariants.{Drawing as ShowsDrawing}
use Rattle.xs_scene.specs.declared.seen.Seen.{Seen}
use Rattle.xs_scene.specs.declared.seen.Seen.TheVariants.{Empty, Drawing as SeenDrawing, Row as SeenRow}
use Rattle.xs_scene.specs.declared.node.Ref.{Ref}
use Rattle.xs_scene.specs.declared.node.Ref.TheVariants.{Column as ToColumn, Node as ToNode}
use Rattle.xs_scene.specs.declared.node.Node.{Node}
use Rattle.xs_scene.specs.declared.node.Node.TheVariants.{Pair as PairNode, Card as CardNode, Shuffle, Blur as BlurNode, Keep as KeepNode, Delete as DeleteNode}
use Rattle.xs_scene.specs.Ranges.{IsFiltered}
use Rattle.xs_scene.specs.Records.{SceneRecord}
use Rattle.xs_meaning.specs.Bounds.{IsWithin}
use Rattle.xs_meaning.specs.Cells.{cell_at}
use Rattle.xs_meaning.specs.Places.{place_of}
use Rattle.xs_meaning.specs.Walk.{sheet_at, column_at, terminals_of}
use Rattle.xs_pixel.specs.Points.{Point}
use Rattle.xs_check.specs.Good.{IsThere}
use Rattle.xs_step.specs.declared.spot.At.{At}
use Rattle.xs_step.specs.declared.spot.At.TheVariants.{Row, Input}
use Rattle.xs_step.specs.declared.spot.Spot.{Spot}
use Rattle.xs_step.specs.declared.step.Step.{Step}
use Rattle.xs_step.specs.declared.step.Step.TheVariants.{Clear, Drawing, Nested, Same, Keep, Delete, Pair, Blur, Card, Over}
use Rattle.xs_step.specs.Spots.{spot, input_spot}

-- what a column sees, moved by the place of its peg
abbrev pub step_of_seen : Point → Seen → Step
step_of_seen offset Empty = Clear
step_of_seen offset (SeenDrawing level index) = Drawing level index offset
step_of_seen offset (SeenRow sheet row) = Nested (spot sheet Row row) offset

-- a shuffle's input at the listed row, and nothing past the list
abbrev pub step_of_listed : ℕ → Ref → Option ℕ → Step
step_of_listed k input None = Clear
step_of_listed k input (Some row) = Same (input_spot k input row)

abbrev pub step_of_node : ℕ → ℕ → Option Node → Step
step_of_node k row None = Clear
step_of_node k row (Some (PairNode op first second)) = Pair op (input_spot k first row) (input_spot k second row)
step_of_node k row (Some (CardNode style)) = Card style
step_of_node k row (Some (Shuffle input list)) = step_of_listed k input (slice_get list (row - 1))
step_of_node k row (Some (BlurNode input radius)) = Blur radius (input_spot k input row)
step_of_node k row (Some (KeepNode input styles)) = Keep (input_spot k input row) styles
step_of_node k row (Some (DeleteNode input styles)) = Delete (input_spot k input row) styles

abbrev pub step_in : SceneRecord → ℕ → At → ℕ → Step
step_in s k Row row = Over (terminals_of (sheet_at s.sheets k))
step_in s k (Input (ToColumn c)) row =
    step_of_seen (place_of (sheet_at s.sheets k) (column_at (sheet_at s.sheets k) c).peg row)
    (cell_at (column_at (sheet_at s.sheets k) c) row)
step_in s k (Input (ToNode n)) row = step_of_node k row (slice_get (sheet_at s.sheets k).nodes n)

unfoldable pub step_of : SceneRecord → Spot → Step
step_of s p = step_in s p.sheet p.at p.row

-- what a step from a spot leads to is there: drawings of the scene, and spots in its sheets
abbrev pub AreThere : SceneRecord → Spot → Step → Type 0
AreThere s p Clear = Unit {0}
AreThere s p (Drawing level index offset) = IsThere s (ShowsDrawing level index)
AreThere s p (Nested row offset) = row.sheet < length s.sheets
AreThere s p (Same next) = next.sheet < length s.sheets
AreThere s p (Keep next styles) = next.sheet < length s.sheets
AreThere s p (Delete next styles) = next.sheet < length s.sheets
AreThere s p (Pair op first second) = (first.sheet < length s.sheets) × (second.sheet < length s.sheets)
AreThere s p (Blur radius next) = next.sheet < length s.sheets
AreThere s p (Card style) = Unit {0}
AreThere s p (Over terminals) = p.sheet < length s.sheets

-- the sizes of a step are bounded
abbrev pub IsBounded : Step → Type 0
IsBounded Clear = Unit {0}
IsBounded (Drawing level index offset) = IsWithin FARTHEST_PLACE offset
IsBounded (Nested row offset) = IsWithin FARTHEST_PLACE offset
IsBounded (Same next) = Unit {0}
IsBounded (Keep next styles) = All IsFiltered styles
IsBounded (Delete next styles) = All IsFiltered styles
IsBounded (Pair op first second) = Unit {0}
IsBounded (Blur radius next) = (1 ≤ radius) × (radius ≤ GREATEST_RADIUS)
IsBounded (Card style) = Unit {0}
IsBounded (Over terminals) = Unit {0}
