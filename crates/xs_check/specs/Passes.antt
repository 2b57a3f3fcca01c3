-- The first fault of a scene, by the passes of checking. Each goes through the scene in the order camera, palettes, levels, sheets, and
-- in each sheet pegs, columns, nodes, out.
use Rattle.std.specs.Prelude.{◌==◌, ◌≡◌, ◌&&◌, ◌+◌, ◌-◌, ℕ, Bool, not, nat_lt, nat_le, min, max, List, [], ◌∷◌, Option, None, length, map, take, if◌then◌else◌}
use Rattle.std.specs.List.{list_all}
use Rattle.std.specs.Str.{bytes_eq}
use Rattle.xs_base.specs.declared.limits.TheConstants.{MOST_STYLES, MOST_STYLE_KEYS, MOST_FILTER_STYLES, LONGEST_SHUFFLE, MOST_COLUMNS, MOST_NODES, MOST_TERMINALS, LONGEST_PEG_CHAIN, DEEPEST_NEST}
use Rattle.xs_fault.specs.declared.code.SceneCode.{SceneCode}
use Rattle.xs_fault.specs.declared.code.SceneCode.TheVariants as code
use Rattle.xs_fault.specs.declared.fault.SceneFault.{SceneFault}
use Rattle.xs_fault.specs.declared.field.Field.TheVariants as field
use Rattle.xs_fault.specs.Paths.{index_at}
use Rattle.xs_fault.specs.Paths.{path_of}
use Rattle.xs_scene.specs.declared.level.Kind.{Kind}
use Rattle.xs_scene.specs.declared.level.Kind.TheVariants.{Colour, Cm32}
use Rattle.xs_scene.specs.declared.column.Shown.{Shown}
use Rattle.xs_scene.specs.declared.column.Shown.TheVariants.{Drawing, Sheet}
use Rattle.xs_scene.specs.declared.node.Ref.{Ref}
use Rattle.xs_scene.specs.declared.node.Ref.TheVariants.{Column as ToColumn, Node as ToNode}
use Rattle.xs_scene.specs.declared.node.Inputs.{Inputs}
use Rattle.xs_scene.specs.declared.node.Inputs.TheVariants.{Zero, One, Two}
use Rattle.xs_scene.specs.declared.node.Node.{Node}
use Rattle.xs_scene.specs.declared.node.Node.TheVariants.{Pair, Card, Shuffle, Blur, Keep, Delete}
use Rattle.xs_scene.specs.Inputs.{inputs_of_node}
use Rattle.xs_scene.specs.Records.{SceneRecord, SheetRecord, ColoursRecord, StyleKeyRecord, LevelRecord, PegRecord, PegKeyRecord, ColumnRecord, ExposureRecord}
use Rattle.xs_meaning.specs.Walk.{sheet_at}
use Rattle.xs_check.specs.Finding.{Finding, unless, or_else, each_from, in_list, if_there}
use Rattle.xs_check.specs.Good.{level_at, files_of}
use Rattle.xs_graph.specs.Paths.{Links, has_chain}
use Rattle.xs_graph.specs.Cycles.{lies_on_cycle}
use Rattle.xs_check.specs.Links.{parent_links, input_links, sheet_links}

-- the path of the sheets
abbrev pub sheets_at : List ℕ
sheets_at = path_of field.Sheets []

-- ---- sizes

-- a list that is longer than its limit
abbrev pub length_fault : {A : Type 0} → ℕ → List ℕ → List A → Finding
length_fault limit at xs = unless code.TooMany at (nat_le (length xs) limit)

abbrev pub palette_size_fault : List ℕ → ColoursRecord → Finding
palette_size_fault at c = or_else (length_fault MOST_STYLES at c.styles) (length_fault MOST_STYLE_KEYS (path_of field.Keys at) c.keys)

abbrev pub node_size_fault : List ℕ → Node → Finding
node_size_fault at (Shuffle input list) = length_fault LONGEST_SHUFFLE (path_of field.List at) list
node_size_fault at (Keep input styles) = length_fault MOST_FILTER_STYLES (path_of field.Styles at) styles
node_size_fault at (Delete input styles) = length_fault MOST_FILTER_STYLES (path_of field.Styles at) styles
node_size_fault at (Pair op first second) = None
node_size_fault at (Card style) = None
node_size_fault at (Blur input radius) = None

abbrev pub sheet_size_fault : List ℕ → SheetRecord → Finding
sheet_size_fault at k =
    or_else (length_fault MOST_COLUMNS (path_of field.Columns at) k.columns)
    (or_else (length_fault MOST_NODES (path_of field.Nodes at) k.nodes)
    (or_else (in_list (path_of field.Nodes at) node_size_fault k.nodes)
    (if_there (length_fault MOST_TERMINALS (path_of field.Out at)) k.out)))

-- lists that are too long
abbrev pub size_fault : SceneRecord → Finding
size_fault s =
    or_else (in_list (path_of field.Palettes []) palette_size_fault s.palettes)
    (in_list sheets_at sheet_size_fault s.sheets)

-- ---- references

-- a number at a path that names none of some things
abbrev pub naming_fault : {A : Type 0} → List ℕ → List A → ℕ → Finding
naming_fault at things number = unless code.NoSuchReference at (nat_lt number (length things))

abbrev pub camera_reference_fault : SceneRecord → Finding
camera_reference_fault s =
    if_there (naming_fault (path_of field.Peg (path_of field.Camera [])) (sheet_at s.sheets 0).pegs) s.camera.peg

abbrev pub palette_reference_fault : List ℕ → ColoursRecord → Finding
palette_reference_fault at c =
    in_list (path_of field.Keys at) (λ at key. naming_fault (path_of field.Style at) c.styles key.style) c.keys

abbrev pub kind_reference_fault : SceneRecord → List ℕ → Kind → Finding
kind_reference_fault s at Colour = None
kind_reference_fault s at (Cm32 palette) = naming_fault (path_of field.Palette at) s.palettes palette

unfoldable pub level_reference_fault : SceneRecord → List ℕ → LevelRecord → Finding
level_reference_fault s at level = kind_reference_fault s at level.kind

abbrev pub shown_reference_fault : SceneRecord → List ℕ → Shown → Finding
shown_reference_fault s at (Drawing level index) =
    or_else (naming_fault (path_of field.Level at) s.levels level)
    (naming_fault (path_of field.Drawing at) (level_at s.levels level).drawings index)
shown_reference_fault s at (Sheet sheet start) = naming_fault (path_of field.Sheet at) s.sheets sheet

unfoldable pub cell_reference_fault : SceneRecord → List ℕ → ExposureRecord → Finding
cell_reference_fault s at e = shown_reference_fault s at e.shown

abbrev pub peg_reference_fault : SheetRecord → List ℕ → PegRecord → Finding
peg_reference_fault k at peg = if_there (naming_fault (path_of field.Parent at) k.pegs) peg.parent

abbrev pub column_reference_fault : SceneRecord → SheetRecord → List ℕ → ColumnRecord → Finding
column_reference_fault s k at column =
    or_else (if_there (naming_fault (path_of field.Peg at) k.pegs) column.peg)
    (in_list (path_of field.Cells at) (cell_reference_fault s) column.cells)

abbrev pub target_fault : SheetRecord → List ℕ → Ref → Finding
target_fault k at (ToColumn c) = naming_fault (path_of field.Column at) k.columns c
target_fault k at (ToNode n) = naming_fault (path_of field.Node at) k.nodes n

abbrev pub input_reference_fault : SheetRecord → List ℕ → Inputs → Finding
input_reference_fault k at Zero = None
input_reference_fault k at (One input) = target_fault k (path_of field.Input at) input
input_reference_fault k at (Two first second) =
    or_else (target_fault k (path_of field.First at) first) (target_fault k (path_of field.Second at) second)

unfoldable pub node_reference_fault : SheetRecord → List ℕ → Node → Finding
node_reference_fault k at node = input_reference_fault k at (inputs_of_node node)

abbrev pub sheet_reference_fault : SceneRecord → List ℕ → SheetRecord → Finding
sheet_reference_fault s at k =
    or_else (in_list (path_of field.Pegs at) (peg_reference_fault k) k.pegs)
    (or_else (in_list (path_of field.Columns at) (column_reference_fault s k) k.columns)
    (or_else (in_list (path_of field.Nodes at) (node_reference_fault k) k.nodes)
    (if_there (in_list (path_of field.Out at) (target_fault k)) k.out)))

-- numbers that name nothing, and a scene without a sheet
abbrev pub reference_fault : SceneRecord → Finding
reference_fault s =
    or_else (camera_reference_fault s)
    (or_else (in_list (path_of field.Palettes []) palette_reference_fault s.palettes)
    (or_else (in_list (path_of field.Levels []) (level_reference_fault s) s.levels)
    (or_else (unless code.NoSuchReference (path_of field.Sheets []) (nat_lt 0 (length s.sheets)))
    (in_list sheets_at (sheet_reference_fault s) s.sheets))))

-- ---- overlaps

-- no row lies in both exposures: one ends before the other begins
abbrev pub are_apart : ExposureRecord → ExposureRecord → Bool
are_apart a b = nat_lt (min a.to b.to) (max a.from b.from)

abbrev pub differ_in_row : PegKeyRecord → PegKeyRecord → Bool
differ_in_row a b = not (a.row == b.row)

-- two palette keys of one style differ in row
abbrev pub differ_in_row_or_style : StyleKeyRecord → StyleKeyRecord → Bool
differ_in_row_or_style a b = not (a.style == b.style && a.row == b.row)

-- the first element of the list at a path that does not stand apart from each earlier one
unfoldable pub apart_fault : {A : Type 0} → (A → A → Bool) → List ℕ → List A → Finding
apart_fault apart at xs =
    each_from (λ i x. unless code.Overlap (index_at at i) (list_all (λ earlier. apart earlier x) (take i xs))) 0 xs

-- the path of the name of a drawing, by its level and its place in the level's list
abbrev pub drawing_path : List ℕ → ℕ → ℕ → List ℕ
drawing_path levels level index = index_at (path_of field.Drawings (index_at levels level)) index

-- the same by the drawing's number: d is counted from level i on
abbrev pub file_path : ℕ → List LevelRecord → ℕ → List ℕ
file_path i [] d = []
file_path i (level ∷ levels) d =
    if nat_lt d (length level.drawings)
    then drawing_path (path_of field.Levels []) i d
    else file_path (i + 1) levels (d - length level.drawings)

-- the first drawing with the file name of an earlier one of the scene
unfoldable pub file_fault : List LevelRecord → Finding
file_fault levels =
    each_from
    (λ d file. unless code.Overlap (file_path 0 levels d) (list_all (λ earlier. not (bytes_eq earlier file)) (take d (files_of levels))))
    0 (files_of levels)

abbrev pub palette_overlap_fault : List ℕ → ColoursRecord → Finding
palette_overlap_fault at c = apart_fault differ_in_row_or_style (path_of field.Keys at) c.keys

abbrev pub peg_overlap_fault : List ℕ → PegRecord → Finding
peg_overlap_fault at peg = apart_fault differ_in_row (path_of field.Keys at) peg.keys

abbrev pub column_overlap_fault : List ℕ → ColumnRecord → Finding
column_overlap_fault at column = apart_fault are_apart (path_of field.Cells at) column.cells

abbrev pub sheet_overlap_fault : List ℕ → SheetRecord → Finding
sheet_overlap_fault at k =
    or_else (in_list (path_of field.Pegs at) peg_overlap_fault k.pegs)
    (in_list (path_of field.Columns at) column_overlap_fault k.columns)

-- what stands where something earlier stands: a key of a palette or a peg with the row of an earlier one,
-- a drawing with the file name of an earlier one, a cell that shares a row with an earlier one
abbrev pub overlap_fault : SceneRecord → Finding
overlap_fault s =
    or_else (in_list (path_of field.Palettes []) palette_overlap_fault s.palettes)
    (or_else (file_fault s.levels) (in_list sheets_at sheet_overlap_fault s.sheets))

-- ---- cycles and chains

-- of the things in the list at a path, which have these links, the first that lies on a cycle
unfoldable pub cycle_fault : SceneCode → Links → List ℕ → Finding
cycle_fault code links at = each_from (λ i targets. unless code (index_at at i) (not (lies_on_cycle links i))) 0 links

-- and the first at which a chain of more than so many things begins: a chain of one more has as many steps
unfoldable pub long_chain_fault : ℕ → Links → List ℕ → Finding
long_chain_fault most links at = each_from (λ i targets. unless code.TooMany (index_at at i) (not (has_chain links most i))) 0 links

-- pegs that lie on a cycle of parents, by the parents of the pegs of each sheet
abbrev pub sheet_peg_cycle_fault : List ℕ → Links → Finding
sheet_peg_cycle_fault at parents = cycle_fault code.PegCycle parents (path_of field.Pegs at)

abbrev pub peg_cycle_fault : List Links → Finding
peg_cycle_fault parents = in_list sheets_at sheet_peg_cycle_fault parents

-- nodes that lie on a cycle of inputs
abbrev pub sheet_node_cycle_fault : List ℕ → SheetRecord → Finding
sheet_node_cycle_fault at k = cycle_fault code.NodeCycle (input_links k) (path_of field.Nodes at)

abbrev pub node_cycle_fault : SceneRecord → Finding
node_cycle_fault s = in_list sheets_at sheet_node_cycle_fault s.sheets

-- sheets that lie on a cycle of exposures, by the sheets that each exposes
abbrev pub sheet_cycle_fault : Links → Finding
sheet_cycle_fault nested = cycle_fault code.SheetCycle nested sheets_at

-- pegs at which too long a chain begins, itself counted, and then sheets at which one of nested sheets does
abbrev pub sheet_chain_fault : List ℕ → Links → Finding
sheet_chain_fault at parents = long_chain_fault LONGEST_PEG_CHAIN parents (path_of field.Pegs at)

abbrev pub chain_fault : List Links → Links → Finding
chain_fault parents nested = or_else (in_list sheets_at sheet_chain_fault parents) (long_chain_fault DEEPEST_NEST nested sheets_at)

-- the first fault of a scene, by the seven passes
abbrev pub first_fault : SceneRecord → Finding
first_fault s =
    or_else (size_fault s)
    (or_else (reference_fault s)
    (or_else (overlap_fault s)
    (or_else (peg_cycle_fault (map parent_links s.sheets))
    (or_else (node_cycle_fault s)
    (or_else (sheet_cycle_fault (sheet_links s.sheets)) (chain_fault (map parent_links s.sheets) (sheet_links s.sheets)))))))

-- checking a scene finds this
abbrev pub Checking : SceneRecord → Option SceneFault → Type 0
Checking s found = first_fault s ≡ found
