-- What a fault tells, in the words of the scene: the thing at its path is wrong, and nothing is that is looked for
-- before.
use Rattle.std.specs.Prelude.{◌≡◌, ◌≤◌, ◌<◌, ◌⊎◌, ℕ, List, [], Some, None, length, slice_get}
use Rattle.xs_base.specs.declared.limits.TheConstants.{MOST_STYLES, MOST_STYLE_KEYS, MOST_FILTER_STYLES, LONGEST_SHUFFLE, MOST_COLUMNS, MOST_NODES, MOST_TERMINALS, LONGEST_PEG_CHAIN, DEEPEST_NEST}
use Rattle.xs_fault.specs.declared.code.SceneCode.{SceneCode}
use Rattle.xs_fault.specs.declared.code.SceneCode.TheVariants as code
use Rattle.xs_fault.specs.declared.field.Field.{Field}
use Rattle.xs_fault.specs.declared.field.Field.TheVariants as field
use Rattle.xs_fault.specs.Paths.{index_at, path_of}
use Rattle.xs_scene.specs.declared.level.Kind.TheVariants.{Cm32}
use Rattle.xs_scene.specs.declared.column.Shown.TheVariants.{Drawing, Sheet}
use Rattle.xs_scene.specs.declared.node.Ref.{Ref}
use Rattle.xs_scene.specs.declared.node.Ref.TheVariants.{Column as ToColumn, Node as ToNode}
use Rattle.xs_pixel.specs.declared.operation.Op.{Op}
use Rattle.xs_scene.specs.declared.node.Node.{Node}
use Rattle.xs_scene.specs.declared.node.Node.TheVariants.{Pair, Shuffle, Blur, Keep, Delete}
use Rattle.xs_scene.specs.Records.{SceneRecord, SheetRecord, ColoursRecord, StyleKeyRecord, LevelRecord, PegRecord, PegKeyRecord, ColumnRecord, ExposureRecord}
use Rattle.xs_meaning.specs.Walk.{sheet_at}
use Rattle.xs_graph.specs.Paths.{LiesOnCycle, HasChain}
use Rattle.xs_fault.specs.declared.fault.SceneFault.{SceneFault}
use Rattle.xs_check.specs.Finding.{Finding}
use Rattle.xs_check.specs.Good.{files_of}
use Rattle.xs_check.specs.Links.{parent_links, input_links, sheet_links}
use Rattle.xs_check.specs.Passes.{file_path}

-- an element by its number
abbrev pub IsAt : {A : Type 0} → List A → ℕ → A → Type 0
IsAt xs i x = slice_get xs i ≡ Some x

-- the fault of the first element of the list at a path that has one
pub record IsFirstFault {A : Type 0} (at : List ℕ) (F : List ℕ → A → Finding) (xs : List A) (fault : SceneFault) : Type 0 where
  pub number : ℕ
  pub element : A
  pub is : IsAt xs number element
  pub finds : F (index_at at number) element ≡ Some fault
  pub before : (j : ℕ) (earlier : A) → j < number → IsAt xs j earlier → F (index_at at j) earlier ≡ None

-- ---- paths

abbrev pub palette_path : ℕ → List ℕ
palette_path p = index_at (path_of field.Palettes []) p

abbrev pub level_path : ℕ → List ℕ
level_path l = index_at (path_of field.Levels []) l

abbrev pub sheet_path : ℕ → List ℕ
sheet_path k = index_at (path_of field.Sheets []) k

abbrev pub peg_path : ℕ → ℕ → List ℕ
peg_path k i = index_at (path_of field.Pegs (sheet_path k)) i

abbrev pub column_path : ℕ → ℕ → List ℕ
column_path k c = index_at (path_of field.Columns (sheet_path k)) c

abbrev pub cell_path : ℕ → ℕ → ℕ → List ℕ
cell_path k c i = index_at (path_of field.Cells (column_path k c)) i

abbrev pub node_path : ℕ → ℕ → List ℕ
node_path k n = index_at (path_of field.Nodes (sheet_path k)) n

-- ---- what is wrong at a path

-- a list is too long
pub data IsTooLong (s : SceneRecord) : List ℕ → Type 0 where
  long_styles : (p : ℕ) (c : ColoursRecord) → IsAt s.palettes p c → MOST_STYLES < length c.styles → IsTooLong s (palette_path p)
  long_style_keys : (p : ℕ) (c : ColoursRecord) → IsAt s.palettes p c → MOST_STYLE_KEYS < length c.keys → IsTooLong s (path_of field.Keys (palette_path p))
  long_columns : (k : ℕ) (sheet : SheetRecord) → IsAt s.sheets k sheet → MOST_COLUMNS < length sheet.columns → IsTooLong s (path_of field.Columns (sheet_path k))
  long_nodes : (k : ℕ) (sheet : SheetRecord) → IsAt s.sheets k sheet → MOST_NODES < length sheet.nodes → IsTooLong s (path_of field.Nodes (sheet_path k))
  long_shuffle :
      (k n : ℕ) (sheet : SheetRecord) (input : Ref) (list : List ℕ) → IsAt s.sheets k sheet → IsAt sheet.nodes n (Shuffle input list)
      → LONGEST_SHUFFLE < length list → IsTooLong s (path_of field.List (node_path k n))
  long_keep :
      (k n : ℕ) (sheet : SheetRecord) (input : Ref) (list : List ℕ) → IsAt s.sheets k sheet → IsAt sheet.nodes n (Keep input list)
      → MOST_FILTER_STYLES < length list → IsTooLong s (path_of field.Styles (node_path k n))
  long_delete :
      (k n : ℕ) (sheet : SheetRecord) (input : Ref) (list : List ℕ) → IsAt s.sheets k sheet → IsAt sheet.nodes n (Delete input list)
      → MOST_FILTER_STYLES < length list → IsTooLong s (path_of field.Styles (node_path k n))
  long_out :
      (k : ℕ) (sheet : SheetRecord) (out : List Ref) → IsAt s.sheets k sheet → sheet.out ≡ Some out → MOST_TERMINALS < length out
      → IsTooLong s (path_of field.Out (sheet_path k))

-- a reference to a column or node that its sheet lacks, by the field that has the number
pub data Lacks (sheet : SheetRecord) : Ref → Field → Type 0 where
  lacks_column : (c : ℕ) → length sheet.columns ≤ c → Lacks sheet (ToColumn c) field.Column
  lacks_node : (n : ℕ) → length sheet.nodes ≤ n → Lacks sheet (ToNode n) field.Node

-- the inputs of a node, by their fields
pub data Takes : Node → Field → Ref → Type 0 where
  takes_first : (op : Op) (a b : Ref) → Takes (Pair op a b) field.First a
  takes_second : (op : Op) (a b : Ref) → Takes (Pair op a b) field.Second b
  takes_shuffled : (input : Ref) (list : List ℕ) → Takes (Shuffle input list) field.Input input
  takes_blurred : (input : Ref) (radius : ℕ) → Takes (Blur input radius) field.Input input
  takes_kept : (input : Ref) (list : List ℕ) → Takes (Keep input list) field.Input input
  takes_deleted : (input : Ref) (list : List ℕ) → Takes (Delete input list) field.Input input

-- a number names nothing, or there is no sheet
pub data IsLacking (s : SceneRecord) : List ℕ → Type 0 where
  no_camera_peg : (p : ℕ) → s.camera.peg ≡ Some p → length (sheet_at s.sheets 0).pegs ≤ p → IsLacking s (path_of field.Peg (path_of field.Camera []))
  no_key_style :
      (p j : ℕ) (c : ColoursRecord) (key : StyleKeyRecord) → IsAt s.palettes p c → IsAt c.keys j key → length c.styles ≤ key.style
      → IsLacking s (path_of field.Style (index_at (path_of field.Keys (palette_path p)) j))
  no_level_palette :
      (l p : ℕ) (level : LevelRecord) → IsAt s.levels l level → level.kind ≡ Cm32 p → length s.palettes ≤ p
      → IsLacking s (path_of field.Palette (level_path l))
  no_sheet : s.sheets ≡ [] → IsLacking s (path_of field.Sheets [])
  no_peg_parent :
      (k i p : ℕ) (sheet : SheetRecord) (peg : PegRecord) → IsAt s.sheets k sheet → IsAt sheet.pegs i peg → peg.parent ≡ Some p
      → length sheet.pegs ≤ p → IsLacking s (path_of field.Parent (peg_path k i))
  no_column_peg :
      (k c p : ℕ) (sheet : SheetRecord) (column : ColumnRecord) → IsAt s.sheets k sheet → IsAt sheet.columns c column → column.peg ≡ Some p
      → length sheet.pegs ≤ p → IsLacking s (path_of field.Peg (column_path k c))
  no_cell_level :
      (k c i level index : ℕ) (sheet : SheetRecord) (column : ColumnRecord) (cell : ExposureRecord) → IsAt s.sheets k sheet
      → IsAt sheet.columns c column → IsAt column.cells i cell → cell.shown ≡ Drawing level index → length s.levels ≤ level
      → IsLacking s (path_of field.Level (cell_path k c i))
  no_cell_drawing :
      (k c i level index : ℕ) (sheet : SheetRecord) (column : ColumnRecord) (cell : ExposureRecord) (owner : LevelRecord) → IsAt s.sheets k sheet
      → IsAt sheet.columns c column → IsAt column.cells i cell → cell.shown ≡ Drawing level index → IsAt s.levels level owner
      → length owner.drawings ≤ index → IsLacking s (path_of field.Drawing (cell_path k c i))
  no_cell_sheet :
      (k c i shown start : ℕ) (sheet : SheetRecord) (column : ColumnRecord) (cell : ExposureRecord) → IsAt s.sheets k sheet
      → IsAt sheet.columns c column → IsAt column.cells i cell → cell.shown ≡ Sheet shown start → length s.sheets ≤ shown
      → IsLacking s (path_of field.Sheet (cell_path k c i))
  no_node_input :
      (k n : ℕ) (sheet : SheetRecord) (node : Node) (input named : Field) (target : Ref) → IsAt s.sheets k sheet → IsAt sheet.nodes n node
      → Takes node input target → Lacks sheet target named → IsLacking s (path_of named (path_of input (node_path k n)))
  no_terminal :
      (k i : ℕ) (sheet : SheetRecord) (out : List Ref) (named : Field) (target : Ref) → IsAt s.sheets k sheet → sheet.out ≡ Some out
      → IsAt out i target → Lacks sheet target named → IsLacking s (path_of named (index_at (path_of field.Out (sheet_path k)) i))

-- something stands where an earlier thing stands: a key in the row of an earlier one, a drawing with the file name
-- of an earlier one, a cell in a row of an earlier one
pub data IsTaken (s : SceneRecord) : List ℕ → Type 0 where
  taken_style_key :
      (p i j : ℕ) (c : ColoursRecord) (a b : StyleKeyRecord) → IsAt s.palettes p c → IsAt c.keys i a → IsAt c.keys j b → i < j → a.style ≡ b.style
      → a.row ≡ b.row → IsTaken s (index_at (path_of field.Keys (palette_path p)) j)
  taken_drawing :
      (d e : ℕ) (name : List ℕ) → IsAt (files_of s.levels) d name → IsAt (files_of s.levels) e name → d < e → IsTaken s (file_path 0 s.levels e)
  taken_peg_key :
      (k n i j : ℕ) (sheet : SheetRecord) (peg : PegRecord) (a b : PegKeyRecord) → IsAt s.sheets k sheet → IsAt sheet.pegs n peg → IsAt peg.keys i a
      → IsAt peg.keys j b → i < j → a.row ≡ b.row → IsTaken s (index_at (path_of field.Keys (peg_path k n)) j)
  taken_cell :
      (k c i j row : ℕ) (sheet : SheetRecord) (column : ColumnRecord) (a b : ExposureRecord) → IsAt s.sheets k sheet → IsAt sheet.columns c column
      → IsAt column.cells i a → IsAt column.cells j b → i < j → a.from ≤ row → row ≤ a.to → b.from ≤ row → row ≤ b.to
      → IsTaken s (cell_path k c j)

-- a peg is its own ancestor, a node is among its own inputs, a sheet shows itself
pub data IsPegCycle (s : SceneRecord) : List ℕ → Type 0 where
  peg_on_cycle :
      (k i : ℕ) (sheet : SheetRecord) → IsAt s.sheets k sheet → i < length sheet.pegs → LiesOnCycle (parent_links sheet) i
      → IsPegCycle s (peg_path k i)

pub data IsNodeCycle (s : SceneRecord) : List ℕ → Type 0 where
  node_on_cycle :
      (k n : ℕ) (sheet : SheetRecord) → IsAt s.sheets k sheet → n < length sheet.nodes → LiesOnCycle (input_links sheet) n
      → IsNodeCycle s (node_path k n)

pub data IsSheetCycle (s : SceneRecord) : List ℕ → Type 0 where
  sheet_on_cycle : (k : ℕ) → k < length s.sheets → LiesOnCycle (sheet_links s.sheets) k → IsSheetCycle s (sheet_path k)

-- a chain of pegs or of nested sheets that begins here has one more than it may
pub data IsLongChain (s : SceneRecord) : List ℕ → Type 0 where
  long_peg_chain :
      (k i : ℕ) (sheet : SheetRecord) → IsAt s.sheets k sheet → i < length sheet.pegs → HasChain (parent_links sheet) LONGEST_PEG_CHAIN i
      → IsLongChain s (peg_path k i)
  long_nest : (k : ℕ) → k < length s.sheets → HasChain (sheet_links s.sheets) DEEPEST_NEST k → IsLongChain s (sheet_path k)

-- ---- what is looked for before

-- nothing of the kind is anywhere
abbrev pub IsNowhere : (List ℕ → Type 0) → Type 0
IsNowhere Wrong = (at : List ℕ) → Wrong at → ⊥

-- what holds where no fault was found before each of the passes
pub record HasLengths (s : SceneRecord) : Type 0 where
  pub lengths : IsNowhere (IsTooLong s)

pub record HasReferences (s : SceneRecord) : Type 0 where
  pub before : HasLengths s
  pub references : IsNowhere (IsLacking s)

pub record StandsApart (s : SceneRecord) : Type 0 where
  pub before : HasReferences s
  pub apart : IsNowhere (IsTaken s)

pub record HasNoPegCycle (s : SceneRecord) : Type 0 where
  pub before : StandsApart s
  pub pegs : IsNowhere (IsPegCycle s)

pub record HasNoNodeCycle (s : SceneRecord) : Type 0 where
  pub before : HasNoPegCycle s
  pub nodes : IsNowhere (IsNodeCycle s)

pub record HasNoCycle (s : SceneRecord) : Type 0 where
  pub before : HasNoNodeCycle s
  pub sheets : IsNowhere (IsSheetCycle s)

pub record HasNoFault (s : SceneRecord) : Type 0 where
  pub before : HasNoCycle s
  pub chains : IsNowhere (IsLongChain s)

-- what each code tells of the scene and of the path
abbrev pub Tells : SceneRecord → SceneCode → List ℕ → Type 0
Tells s code.TooMany at = IsTooLong s at ⊎ (HasNoCycle s × IsLongChain s at)
Tells s code.NoSuchReference at = HasLengths s × IsLacking s at
Tells s code.Overlap at = HasReferences s × IsTaken s at
Tells s code.PegCycle at = StandsApart s × IsPegCycle s at
Tells s code.NodeCycle at = HasNoPegCycle s × IsNodeCycle s at
Tells s code.SheetCycle at = HasNoNodeCycle s × IsSheetCycle s at
Tells s code at = ⊥
