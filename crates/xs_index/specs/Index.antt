use Rattle.std.specs.Prelude.{ℕ, List, [], slice_index_or}
use Rattle.xs_scene.specs.Records.{SceneRecord, SheetRecord, ColumnRecord, PegRecord, ColoursRecord, ExposureRecord, PegKeyRecord, StyleKeyRecord}
use Rattle.xs_meaning.specs.Drawings.{no_colours}
use Rattle.xs_meaning.specs.Places.{peg_at}
use Rattle.xs_meaning.specs.Walk.{sheet_at, column_at}
use Rattle.xs_index.specs.Order.{IsOrderOf}
use Rattle.xs_index.specs.declared.index.SheetIndex.{SheetIndex}
use Rattle.xs_index.specs.declared.index.Index.{Index}

-- the cells of a column, the keys of a peg and the keys of a palette in order
abbrev pub AreCells : ColumnRecord → List ExposureRecord → Type 0
AreCells column = IsOrderOf (λ e. 0) (λ e. e.from) column.cells

abbrev pub AreKeys : PegRecord → List PegKeyRecord → Type 0
AreKeys peg = IsOrderOf (λ k. 0) (λ k. k.row) peg.keys

abbrev pub AreStyleKeys : ColoursRecord → List StyleKeyRecord → Type 0
AreStyleKeys palette = IsOrderOf (λ k. k.style) (λ k. k.row) palette.keys

abbrev pub no_lists : SheetIndex
no_lists = record { columns = []; pegs = [] }

abbrev pub cells_in : Index → ℕ → ℕ → List ExposureRecord
cells_in index sheet column = slice_index_or (slice_index_or index.sheets sheet no_lists).columns column []

abbrev pub keys_in : Index → ℕ → ℕ → List PegKeyRecord
keys_in index sheet peg = slice_index_or (slice_index_or index.sheets sheet no_lists).pegs peg []

abbrev pub style_keys_in : Index → ℕ → List StyleKeyRecord
style_keys_in index palette = slice_index_or index.palettes palette []

-- the lists of a sheet in order. A column or peg that it lacks has none
pub record IsSheetIndex (sheet : SheetRecord) (lists : SheetIndex) : Type 0 where
  pub cells : (c : ℕ) → AreCells (column_at sheet c) (slice_index_or lists.columns c [])
  pub keys : (i : ℕ) → AreKeys (peg_at sheet i) (slice_index_or lists.pegs i [])

-- the lists of a scene in order
pub record IsIndexOf (s : SceneRecord) (index : Index) : Type 0 where
  pub sheets : (k : ℕ) → IsSheetIndex (sheet_at s.sheets k) (slice_index_or index.sheets k no_lists)
  pub palettes : (p : ℕ) → AreStyleKeys (slice_index_or s.palettes p no_colours) (style_keys_in index p)
