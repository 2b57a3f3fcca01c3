-- What a spot is read as is one step over what other spots are read as
use Rattle.std.proofs.Common.{◌≡◌, ◌-◌, ℕ, Option, Some, None, slice_get, refl, ◌∙◌}
use Rattle.xs_scene.specs.declared.seen.Seen.{Seen}
use Rattle.xs_scene.specs.declared.seen.Seen.TheVariants.{Empty, Drawing as SeenDrawing, Row as SeenRow}
use Rattle.xs_scene.specs.declared.node.Ref.{Ref}
use Rattle.xs_scene.specs.declared.node.Ref.TheVariants.{Column as ToColumn, Node as ToNode}
use Rattle.xs_scene.specs.declared.node.Node.{Node}
use Rattle.xs_scene.specs.declared.node.Node.TheVariants.{Pair, Card, Shuffle, Blur, Keep, Delete}
use Rattle.xs_scene.specs.Records.{SceneRecord}
use Rattle.xs_meaning.specs.Cells.{cell_at}
use Rattle.xs_meaning.specs.Ends.{AllEnd}
use Rattle.xs_meaning.specs.Palettes.{Dropped}
use Rattle.xs_meaning.specs.Places.{place_of}
use Rattle.xs_meaning.specs.Walk.{Interpretation, sheet_at, column_at, seen_by, listed_by, node_by, whole_row, whole_input}
use Rattle.xs_meaning.proofs.Depth.{whole_input-column, whole_input-node, whole_row-row}
use Rattle.xs_pixel.specs.Points.{Point}
use Rattle.xs_step.specs.declared.spot.At.{At}
use Rattle.xs_step.specs.declared.spot.At.TheVariants.{Row, Input}
use Rattle.xs_step.specs.declared.spot.Spot.{Spot}
use Rattle.xs_step.specs.Readings.{answer_in, answer_at, step_by}
use Rattle.xs_step.specs.Spots.{spot}
use Rattle.xs_step.specs.Steps.{step_of_seen, step_of_listed, step_of_node, step_in, step_of}

-- nothing is read the same when it is moved
abbrev pub IsUnmoved : {A : Type 0} → Interpretation A → Type 0
IsUnmoved R = (q : Point) → R.moved q R.nothing ≡ R.nothing

seen-step :
    {A : Type 0} (R : Interpretation A) (s : SceneRecord) → IsUnmoved R
    → (k : ℕ) (at : At) (row : ℕ) (f : Dropped) (offset : Point) (seen : Seen)
    → R.moved offset (seen_by R (whole_row R s.sheets) seen row f)
    ≡ step_by R (answer_at R s) (spot k at row) f (step_of_seen offset seen)
unfolding answer_at
seen-step R s unmoved k at row f offset Empty = unmoved offset
seen-step R s unmoved k at row f offset (SeenDrawing level index) = refl
seen-step R s unmoved k at row f offset (SeenRow sheet inner) = refl

listed-step :
    {A : Type 0} (R : Interpretation A) (s : SceneRecord) (k : ℕ) (at : At) (row : ℕ) (f : Dropped) (input : Ref) (listed : Option ℕ)
    → listed_by R (whole_input R s.sheets k input) listed f
    ≡ step_by R (answer_at R s) (spot k at row) f (step_of_listed k input listed)
unfolding answer_at
listed-step R s k at row f input None = refl
listed-step R s k at row f input (Some listed) = refl

node-step :
    {A : Type 0} (R : Interpretation A) (s : SceneRecord) (k : ℕ) (at : At) (row : ℕ) (f : Dropped) (node : Option Node)
    → node_by R (whole_input R s.sheets k) node row f
    ≡ step_by R (answer_at R s) (spot k at row) f (step_of_node k row node)
unfolding answer_at
node-step R s k at row f None = refl
node-step R s k at row f (Some (Pair op first second)) = refl
node-step R s k at row f (Some (Card style)) = refl
node-step R s k at row f (Some (Shuffle input list)) = listed-step R s k at row f input (slice_get list (row - 1))
node-step R s k at row f (Some (Blur input radius)) = refl
node-step R s k at row f (Some (Keep input styles)) = refl
node-step R s k at row f (Some (Delete input styles)) = refl

step-in :
    {A : Type 0} (R : Interpretation A) (s : SceneRecord) → IsUnmoved R → AllEnd s.sheets
    → (k : ℕ) (at : At) (row : ℕ) (f : Dropped)
    → answer_in R s k at row f ≡ step_by R (answer_at R s) (spot k at row) f (step_in s k at row)
step-in R s unmoved ends k Row row f = unfold answer_at in whole_row-row R s.sheets ends k row f
step-in R s unmoved ends k (Input (ToColumn c)) row f =
    whole_input-column R s.sheets k c row f
    ∙ seen-step R s unmoved k (Input (ToColumn c)) row f
    (place_of (sheet_at s.sheets k) (column_at (sheet_at s.sheets k) c).peg row)
    (cell_at (column_at (sheet_at s.sheets k) c) row)
step-in R s unmoved ends k (Input (ToNode n)) row f =
    whole_input-node R s.sheets ends k n row f
    ∙ node-step R s k (Input (ToNode n)) row f (slice_get (sheet_at s.sheets k).nodes n)

-- for each interpretation in which nothing stays nothing when it is moved
pub answer-step :
    {A : Type 0} (R : Interpretation A) (s : SceneRecord) → IsUnmoved R → AllEnd s.sheets → (p : Spot) (f : Dropped)
    → answer_at R s p f ≡ step_by R (answer_at R s) p f (step_of s p)
answer-step R s unmoved ends p f =
    unfold answer_at step_of in step-in R s unmoved ends p.sheet p.at p.row f
