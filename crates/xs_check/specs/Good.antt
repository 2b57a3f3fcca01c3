-- What checking establishes of a scene.
use Rattle.xs_index.specs.Apart.{AreApart, DifferInRow, DifferInRowOrStyle}
use Rattle.xs_base.specs.declared.limits.TheConstants.{MOST_STYLES, MOST_STYLE_KEYS, MOST_FILTER_STYLES, LONGEST_SHUFFLE, MOST_COLUMNS, MOST_NODES, MOST_TERMINALS}
use Rattle.std.specs.Prelude.{◌≢◌, ◌≤◌, ◌<◌, ℕ, List, [], Some, IfSome, All, AllPairs, length, flat_map, slice_index_or}
use Rattle.xs_scene.specs.declared.level.Kind.{Kind}
use Rattle.xs_scene.specs.declared.level.Kind.TheVariants.{Colour, Cm32}
use Rattle.xs_scene.specs.declared.column.Shown.{Shown}
use Rattle.xs_scene.specs.declared.column.Shown.TheVariants.{Drawing, Sheet}
use Rattle.xs_scene.specs.declared.node.Ref.{Ref}
use Rattle.xs_scene.specs.declared.node.Ref.TheVariants.{Column as ToColumn, Node as ToNode}
use Rattle.xs_scene.specs.declared.node.Node.{Node}
use Rattle.xs_scene.specs.declared.node.Node.TheVariants.{Shuffle, Keep, Delete}
use Rattle.xs_scene.specs.InRange.{IsInRange}
use Rattle.xs_scene.specs.Records.{SceneRecord, SheetRecord, ColumnRecord, PegRecord, LevelRecord, ColoursRecord}
use Rattle.xs_meaning.specs.Walk.{sheet_at}
use Rattle.xs_meaning.specs.Ends.{AllEnd, InputsHave}

-- ---- what a number names

abbrev pub no_drawings : LevelRecord
no_drawings = record { kind = Colour; drawings = [] }

abbrev pub level_at : List LevelRecord → ℕ → LevelRecord
level_at levels i = slice_index_or levels i no_drawings

-- a CM32 level has a palette of the scene
abbrev pub HasPalette : SceneRecord → Kind → Type 0
HasPalette s Colour = Unit {0}
HasPalette s (Cm32 palette) = palette < length s.palettes

-- what an exposure shows is there: the level and the drawing, or the sheet
abbrev pub IsThere : SceneRecord → Shown → Type 0
IsThere s (Drawing level index) = (level < length s.levels) × (index < length (level_at s.levels level).drawings)
IsThere s (Sheet sheet start) = sheet < length s.sheets

-- a column or node of a sheet is there
abbrev pub Targets : SheetRecord → Ref → Type 0
Targets k (ToColumn c) = c < length k.columns
Targets k (ToNode n) = n < length k.nodes

-- ---- what may not stand twice

-- the file names of a scene's drawings, by the drawings' numbers
abbrev pub files_of : List LevelRecord → List (List ℕ)
files_of levels = flat_map (λ l. l.drawings) levels

-- ---- a good scene

pub record IsGoodPalette (c : ColoursRecord) : Type 0 where
  pub styles : length c.styles ≤ MOST_STYLES
  pub keys : length c.keys ≤ MOST_STYLE_KEYS
  pub names : All (λ key. key.style < length c.styles) c.keys
  pub differ : AllPairs DifferInRowOrStyle c.keys

pub record IsGoodPeg (k : SheetRecord) (peg : PegRecord) : Type 0 where
  pub parent : IfSome peg.parent (λ p. p < length k.pegs)
  pub differ : AllPairs DifferInRow peg.keys

pub record IsGoodColumn (s : SceneRecord) (k : SheetRecord) (column : ColumnRecord) : Type 0 where
  pub peg : IfSome column.peg (λ p. p < length k.pegs)
  pub shown : All (λ e. IsThere s e.shown) column.cells
  pub apart : AllPairs AreApart column.cells

abbrev pub HasFewEntries : Node → Type 0
HasFewEntries (Shuffle input list) = length list ≤ LONGEST_SHUFFLE
HasFewEntries (Keep input styles) = length styles ≤ MOST_FILTER_STYLES
HasFewEntries (Delete input styles) = length styles ≤ MOST_FILTER_STYLES
HasFewEntries _ = Unit {0}

pub record IsGoodNode (k : SheetRecord) (node : Node) : Type 0 where
  pub entries : HasFewEntries node
  pub inputs : InputsHave (Targets k) (Some node)

pub record IsGoodSheet (s : SceneRecord) (k : SheetRecord) : Type 0 where
  pub few_columns : length k.columns ≤ MOST_COLUMNS
  pub few_nodes : length k.nodes ≤ MOST_NODES
  pub few_out : IfSome k.out (λ out. length out ≤ MOST_TERMINALS)
  pub pegs : All (IsGoodPeg k) k.pegs
  pub columns : All (IsGoodColumn s k) k.columns
  pub nodes : All (IsGoodNode k) k.nodes
  pub terminals : IfSome k.out (All (Targets k))

-- a scene in which every number names a thing, nothing stands twice where one may, nothing leads back
-- to itself, and every size is within its limit
pub record IsGood (s : SceneRecord) : Type 0 where
  pub ranges : IsInRange s
  pub camera : IfSome s.camera.peg (λ p. p < length (sheet_at s.sheets 0).pegs)
  pub palettes : All IsGoodPalette s.palettes
  pub levels : All (λ l. HasPalette s l.kind) s.levels
  pub files : AllPairs (λ a b. a ≢ b) (files_of s.levels)
  pub first_sheet : 0 < length s.sheets
  pub sheets : All (IsGoodSheet s) s.sheets
  pub ends : AllEnd s.sheets
