-- The tables of values hold
use Rattle.std.proofs.Common.{ℕ, ◌≡◌, refl, ap, ◌∙◌, Option, Some, List, [], ◌∷◌, map, fold}
use Rattle.xs_pixel.specs.Operations.{over_of}
use Rattle.xs_pixel.specs.declared.operation.Op.TheVariants.{Over}
use Rattle.xs_scene.specs.declared.seen.Seen.{Seen}
use Rattle.xs_scene.specs.declared.node.Ref.{Ref}
use Rattle.xs_scene.specs.declared.node.Node.{Node}
use Rattle.xs_scene.specs.Records.{SceneRecord}
use Rattle.xs_pixel.specs.Picture.{Pictures}
use Rattle.xs_meaning.specs.Ends.{AllEnd}
use Rattle.xs_meaning.specs.Palettes.{Dropped}
use Rattle.xs_pixel.specs.Points.{Point, minus}
use Rattle.xs_pixel.specs.Images.{Image}
use Rattle.xs_meaning.specs.RowValues.{by_points}
use Rattle.xs_meaning.specs.Tables.{Sees, HasNode, place_at, column_value, node_value, ColumnsFollow, NodesFollow, RowsFollow, stacked}
use Rattle.xs_meaning.specs.Walk.{sheet_at, terminals_of, seen_by, listed_by, node_by, above_by, composed_by, whole_row, whole_input}
use Rattle.xs_meaning.proofs.Depth.{whole_input-column, whole_input-node, whole_row-row}

column-value :
    (s : SceneRecord) (pictures : Pictures) (k c row : ℕ) (f : Dropped) (p : Point) (seen : Seen) → Sees s k c row seen
    → column_value s pictures k c row f p
    ≡ seen_by (by_points s pictures) (whole_row (by_points s pictures) s.sheets) seen row f (minus p (place_at s k c row))
unfolding by_points
column-value s pictures k c row f p seen sees =
    ap (λ image. image p) (whole_input-column (by_points s pictures) s.sheets k c row f)
    ∙ ap
    (λ x.
    seen_by (by_points s pictures) (whole_row (by_points s pictures) s.sheets) x row f
    (minus p (place_at s k c row)))
    sees

pub columns-follow : (s : SceneRecord) (pictures : Pictures) → ColumnsFollow s pictures
unfolding by_points
columns-follow s pictures =
    record {
      empty = λ k c row f p sees. column-value s pictures k c row f p _ sees;
      drawing = λ k c row f p level index sees. column-value s pictures k c row f p _ sees;
      row = λ k c row f p sheet inner sees. column-value s pictures k c row f p _ sees;
    }

node-value :
    (s : SceneRecord) (pictures : Pictures) → AllEnd s.sheets
    → (k n row : ℕ) (f : Dropped) (p : Point) (node : Node) → HasNode s k n node
    → node_value s pictures k n row f p
    ≡ node_by (by_points s pictures) (whole_input (by_points s pictures) s.sheets k) (Some node) row f p
node-value s pictures ends k n row f p node has =
    ap (λ image. image p) (whole_input-node (by_points s pictures) s.sheets ends k n row f)
    ∙ ap (λ x. node_by (by_points s pictures) (whole_input (by_points s pictures) s.sheets k) x row f p) has

pub nodes-follow : (s : SceneRecord) (pictures : Pictures) → AllEnd s.sheets → NodesFollow s pictures
unfolding by_points
nodes-follow s pictures ends =
    record {
      pair = λ k n row f p op first second has. node-value s pictures ends k n row f p _ has;
      card = λ k n row f p style has. node-value s pictures ends k n row f p _ has;
      shuffle = λ k n row f p input list listed has entry.
          node-value s pictures ends k n row f p _ has ∙ at_entry k f p input entry;
      past_the_list = λ k n row f p input list has entry.
          node-value s pictures ends k n row f p _ has ∙ at_entry k f p input entry;
      blur = λ k n row f p input radius has. node-value s pictures ends k n row f p _ has;
      keep = λ k n row f p input styles has. node-value s pictures ends k n row f p _ has;
      delete = λ k n row f p input styles has. node-value s pictures ends k n row f p _ has;
    }
  where
    at_entry : (k : ℕ) (f : Dropped) (p : Point) (input : Ref) {entry listed : Option ℕ} → entry ≡ listed
        → listed_by (by_points s pictures) (whole_input (by_points s pictures) s.sheets k input) entry f p
        ≡ listed_by (by_points s pictures) (whole_input (by_points s pictures) s.sheets k input) listed f p
    at_entry k f p input same =
        ap (λ x. listed_by (by_points s pictures) (whole_input (by_points s pictures) s.sheets k input) x f p) same

above-stacked :
    (s : SceneRecord) (pictures : Pictures) (val : Ref → Image) (p : Point) (ts : List Ref) (was : Image)
    → above_by (by_points s pictures) was (map val ts) p
    ≡ fold (λ was pixel. over_of pixel was) (was p) (map (λ t. val t p) ts)
unfolding by_points
above-stacked s pictures val p [] was = refl
above-stacked s pictures val p (t ∷ ts) was =
    above-stacked s pictures val p ts ((by_points s pictures).pair Over (val t) was)

composed-stacked :
    (s : SceneRecord) (pictures : Pictures) (val : Ref → Image) (p : Point) (ts : List Ref)
    → composed_by (by_points s pictures) (map val ts) p ≡ stacked (map (λ t. val t p) ts)
unfolding by_points
composed-stacked s pictures val p [] = refl
composed-stacked s pictures val p (t ∷ ts) = above-stacked s pictures val p ts (val t)

pub rows-follow : (s : SceneRecord) (pictures : Pictures) → AllEnd s.sheets → RowsFollow s pictures
rows-follow s pictures ends k row f p =
    ap (λ image. image p) (whole_row-row (by_points s pictures) s.sheets ends k row f)
    ∙ composed-stacked s pictures (λ t. whole_input (by_points s pictures) s.sheets k t row f) p
    (terminals_of (sheet_at s.sheets k))
