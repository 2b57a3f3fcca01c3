-- What the pegs, the nodes and the sheets of a scene name.
use Rattle.std.specs.Prelude.{ℕ, List, [], ◌∷◌, map, flat_map}
use Rattle.std.specs.Option.{option_to_list}
use Rattle.xs_scene.specs.declared.column.Shown.{Shown}
use Rattle.xs_scene.specs.declared.column.Shown.TheVariants.{Drawing, Sheet}
use Rattle.xs_scene.specs.Records.{SheetRecord}
use Rattle.xs_meaning.specs.Inputs.{inputs_of}
use Rattle.xs_graph.specs.Paths.{Links}

-- the parent of each peg
abbrev pub parent_links : SheetRecord → Links
parent_links k = map (λ peg. option_to_list peg.parent) k.pegs

-- the nodes that each node takes
abbrev pub input_links : SheetRecord → Links
input_links k = map inputs_of k.nodes

abbrev pub sheet_in : Shown → List ℕ
sheet_in (Drawing level index) = []
sheet_in (Sheet sheet start) = sheet ∷ []

-- the sheets that a sheet exposes, column by column
abbrev pub sheets_in : SheetRecord → List ℕ
sheets_in k = flat_map (λ column. flat_map (λ e. sheet_in e.shown) column.cells) k.columns

-- the sheets that each sheet exposes
abbrev pub sheet_links : List SheetRecord → Links
sheet_links sheets = map sheets_in sheets
