-- The scene of a seed with so many rows. What is drawn from a state x on is told by x
use Rattle.std.specs.Prelude.{ℕ, ◌+◌, ◌*◌, ◌/◌, ℤ, pos, ◌-ℤ◌, min, false, List, [], ◌∷◌, Option, None, Some, map}
use Rattle.std.specs.List.{range_with_len}
use Rattle.xs_pixel.specs.declared.operation.Op.TheVariants.{MatteIn}
use Rattle.xs_pixel.specs.declared.style.Style.{Style}
use Rattle.xs_scene.specs.declared.column.Shown.TheVariants.{Drawing}
use Rattle.xs_scene.specs.declared.level.Kind.TheVariants.{Colour, Cm32}
use Rattle.xs_scene.specs.declared.node.Node.{Node}
use Rattle.xs_scene.specs.declared.node.Node.TheVariants.{Pair}
use Rattle.xs_scene.specs.declared.node.Ref.{Ref}
use Rattle.xs_scene.specs.declared.node.Ref.TheVariants as target
use Rattle.xs_scene.specs.Records.{SceneRecord, SheetRecord, ColumnRecord, ExposureRecord, PegRecord, PegKeyRecord, LevelRecord, ColoursRecord, CameraRecord}
use Rattle.xs_make.specs.Draws.{drawn, state_after}
use Rattle.xs_make.specs.Files.{background_name, background_state, cel_name}

-- ---- one palette of eight styles: a clear one and seven opaque ones

abbrev pub clear_style : Style
clear_style = record { r = 0; g = 0; b = 0; a = 0 }

abbrev pub style_from : (x k : ℕ) → Style
style_from x k = record { r = drawn x (3 * k) 256; g = drawn x (3 * k + 1) 256; b = drawn x (3 * k + 2) 256; a = 255 }

abbrev pub palette_from : ℕ → ColoursRecord
palette_from x = record { styles = clear_style ∷ map (style_from x) (range_with_len 0 7); keys = [] }

-- ---- four levels: the background, and three with four drawings each

abbrev pub background_level : LevelRecord
background_level = record { kind = Colour; drawings = background_name ∷ [] }

-- a level of words; they count from 0
abbrev pub cel_level : ℕ → LevelRecord
cel_level l = record { kind = Cm32 0; drawings = map cel_name (range_with_len (4 * l) 4) }

abbrev pub made_levels : List LevelRecord
made_levels = background_level ∷ map cel_level (range_with_len 0 3)

-- ---- one peg with a key at each eighth row

-- how many keys: at rows 1, 9, 17 and so on
abbrev pub keys_of : ℕ → ℕ
keys_of rows = (rows + 7) / 8

-- a number drawn from the same count on either side of 0
abbrev pub around : (x draw most : ℕ) → ℤ
around x draw most = pos (drawn x draw (2 * most + 1)) -ℤ pos most

-- a key of the peg; they count from 0
abbrev pub key_from : (x n : ℕ) → PegKeyRecord
key_from x n = record { row = 8 * n + 1; x = around x (2 * n) 16; y = around x (2 * n + 1) 8; line = false }

abbrev pub peg_from : (x count : ℕ) → PegRecord
peg_from x count = record { parent = None; keys = map (key_from x) (range_with_len 0 count) }

-- ---- four columns

-- how many exposures a column of words has: one for two rows
abbrev pub exposures_of : ℕ → ℕ
exposures_of rows = (rows + 1) / 2

-- an exposure of a column; they count from 0
abbrev pub exposure_from : (x rows level j : ℕ) → ExposureRecord
exposure_from x rows level j =
    record { from = 2 * j + 1; to = min (2 * j + 2) rows; shown = Drawing level (drawn x j 4) }

abbrev pub cells_from : (x rows level count : ℕ) → List ExposureRecord
cells_from x rows level count = map (exposure_from x rows level) (range_with_len 0 count)

abbrev pub column_from : (x rows level : ℕ) (peg : Option ℕ) → ColumnRecord
column_from x rows level peg = record { peg = peg; off = false; cells = cells_from x rows level (exposures_of rows) }

-- the background, held over all rows
abbrev pub held_column : ℕ → ColumnRecord
held_column rows = record { peg = None; off = false; cells = record { from = 1; to = rows; shown = Drawing 0 0 } ∷ [] }

-- the second column of words hangs on the peg
abbrev pub columns_from : (x rows : ℕ) → List ColumnRecord
columns_from x rows =
    held_column rows
    ∷ column_from x rows 1 None
    ∷ column_from (state_after x (exposures_of rows)) rows 2 (Some 0)
    ∷ column_from (state_after x (2 * exposures_of rows)) rows 3 None
    ∷ []

-- ---- the sheet and the scene

-- the second column of words inside the first
abbrev pub made_node : Node
made_node = Pair MatteIn (target.Column 2) (target.Column 1)

-- from the bottom up
abbrev pub made_out : List Ref
made_out = target.Column 0 ∷ target.Column 1 ∷ target.Node 0 ∷ target.Column 3 ∷ []

-- a sheet: two draws for each key of the peg come before those of the columns
abbrev pub sheet_from : (x rows : ℕ) → SheetRecord
sheet_from x rows = record {
  pegs = peg_from x (keys_of rows) ∷ [];
  columns = columns_from (state_after x (2 * keys_of rows)) rows;
  nodes = made_node ∷ [];
  out = Some made_out;
}

abbrev pub made_camera : CameraRecord
made_camera = record { w = 192; h = 128; peg = None }

abbrev pub scene_of : ColoursRecord → SheetRecord → SceneRecord
scene_of palette sheet =
    record { format = 1; camera = made_camera; palettes = palette ∷ []; levels = made_levels; sheets = sheet ∷ [] }

-- the draws of the sheet begin behind those of the background and of the twelve drawings
abbrev pub sheet_state : ℕ → ℕ
sheet_state seed = state_after (background_state seed) (24576 + 12290 * 12)

abbrev pub scene_from : (seed rows : ℕ) → SceneRecord
scene_from seed rows = scene_of (palette_from seed) (sheet_from (sheet_state seed) rows)
