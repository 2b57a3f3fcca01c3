use Rattle.std.specs.Prelude.{ℕ, zero, suc, ◌<◌, Option, Some, None, List, length, slice_get, All}
use Rattle.xs_base.specs.declared.limits.TheConstants.{DEEPEST_NEST, LONGEST_PEG_CHAIN}
use Rattle.xs_scene.specs.declared.column.Shown.{Shown}
use Rattle.xs_scene.specs.declared.column.Shown.TheVariants.{Drawing, Sheet}
use Rattle.xs_scene.specs.declared.seen.Seen.{Seen}
use Rattle.xs_scene.specs.declared.seen.Seen.TheVariants.{Empty, Drawing as SeenDrawing, Row as SeenRow}
use Rattle.xs_scene.specs.declared.node.Ref.{Ref}
use Rattle.xs_scene.specs.declared.node.Ref.TheVariants.{Column as ToColumn, Node as ToNode}
use Rattle.xs_scene.specs.declared.node.Node.{Node}
use Rattle.xs_scene.specs.declared.node.Node.TheVariants.{Pair, Card, Shuffle, Blur, Keep, Delete}
use Rattle.xs_scene.specs.Records.{SheetRecord}
use Rattle.xs_meaning.specs.Places.{peg_at}
use Rattle.xs_meaning.specs.Walk.{sheet_at}

-- P holds of each input of a node
abbrev pub InputsHave : (Ref → Type 0) → Option Node → Type 0
InputsHave P None = Unit {0}
InputsHave P (Some (Pair op first second)) = P first × P second
InputsHave P (Some (Card style)) = Unit {0}
InputsHave P (Some (Shuffle input list)) = P input
InputsHave P (Some (Blur input radius)) = P input
InputsHave P (Some (Keep input styles)) = P input
InputsHave P (Some (Delete input styles)) = P input

-- each way from a column or node through inputs has at most so many nodes
unfoldable pub NodesEnd : SheetRecord → ℕ → Ref → Type 0
NodesEnd k zero (ToNode n) = ⊥
NodesEnd k (suc m) (ToNode n) = InputsHave (NodesEnd k m) (slice_get k.nodes n)
NodesEnd k _ (ToColumn c) = Unit {0}

-- P holds of the sheet that an exposure shows
abbrev pub ShownHas : (ℕ → Type 0) → Shown → Type 0
ShownHas P (Drawing level index) = Unit {0}
ShownHas P (Sheet sheet start) = P sheet

-- P holds of the sheet whose row is seen
abbrev pub SeenHas : (ℕ → Type 0) → Seen → Type 0
SeenHas P Empty = Unit {0}
SeenHas P (SeenDrawing level index) = Unit {0}
SeenHas P (SeenRow sheet row) = P sheet

-- each way from a sheet through exposures has at most so many sheets, itself counted
unfoldable pub SheetsEnd : List SheetRecord → ℕ → ℕ → Type 0
SheetsEnd sheets zero k = ⊥
SheetsEnd sheets (suc d) k =
    All (λ column. All (λ e. ShownHas (SheetsEnd sheets d) e.shown) column.cells) (sheet_at sheets k).columns

-- the chain of a peg and its parents has at most so many pegs
unfoldable pub PegsEnd : SheetRecord → ℕ → Option ℕ → Type 0
PegsEnd k m None = Unit {0}
PegsEnd k zero (Some i) = ⊥
PegsEnd k (suc m) (Some i) = PegsEnd k m (peg_at k i).parent

-- what checking finds of a scene's sheets: nothing leads back to itself, a way through nodes is no
-- longer than the sheet has nodes, sheets are nested no deeper than `DEEPEST_NEST` and chains of pegs no longer than `LONGEST_PEG_CHAIN`
pub record AllEnd (sheets : List SheetRecord) : Type 0 where
  pub nodes :
      (k n : ℕ) → n < length (sheet_at sheets k).nodes → NodesEnd (sheet_at sheets k) (length (sheet_at sheets k).nodes) (ToNode n)
  pub sheets_end : (k : ℕ) → SheetsEnd sheets DEEPEST_NEST k
  pub pegs : (k i : ℕ) → i < length (sheet_at sheets k).pegs → PegsEnd (sheet_at sheets k) LONGEST_PEG_CHAIN (Some i)
