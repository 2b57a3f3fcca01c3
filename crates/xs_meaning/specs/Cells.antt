use Rattle.std.specs.Prelude.{ℕ, ◌+◌, ◌-◌, nat_le, Bool, ◌&&◌, find}
use Rattle.std.specs.Option.{option_map_or}
use Rattle.xs_scene.specs.declared.column.Shown.{Shown}
use Rattle.xs_scene.specs.declared.column.Shown.TheVariants.{Drawing, Sheet}
use Rattle.xs_scene.specs.declared.seen.Seen.{Seen}
use Rattle.xs_scene.specs.declared.seen.Seen.TheVariants.{Empty, Drawing as SeenDrawing, Row as SeenRow}
use Rattle.xs_scene.specs.Records.{ColumnRecord, ExposureRecord}

-- whether the rows of an exposure contain a row
abbrev pub covers : ℕ → ExposureRecord → Bool
covers row e = nat_le e.from row && nat_le row e.to

-- what an exposure shows some rows after its first one: its drawing, or the row of its sheet that is
-- as many rows after the start
abbrev pub shown_after : ℕ → Shown → Seen
shown_after rows (Drawing level index) = SeenDrawing level index
shown_after rows (Sheet sheet start) = SeenRow sheet (start + rows)

-- what a column shows at a row: that of the exposure whose rows contain it, else nothing
unfoldable pub cell_at : ColumnRecord → ℕ → Seen
cell_at column row =
    option_map_or (λ e. shown_after (row - e.from) e.shown) (find (covers row) column.cells) Empty
