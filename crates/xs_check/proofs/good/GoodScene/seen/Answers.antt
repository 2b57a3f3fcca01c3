use Rattle.std.proofs.Common.{List, find, sym, ap, ◌∙◌, subst}
use Rattle.std.specs.List.Sorted.{IsPermutation}
use Rattle.xs_scene.specs.Records.{SceneRecord, ColumnRecord, ExposureRecord}
use Rattle.xs_meaning.specs.Cells.{cell_at, covers}
use Rattle.xs_meaning.specs.Walk.{sheet_at, column_at}
use Rattle.xs_check.specs.Readers.{IsSeen}
use Rattle.xs_check.proofs.Readings.{cell_there, cells_apart}
use Rattle.xs_check.proofs.good.GoodScene.seen.Goals as goal

abbrev column : goal.After-seen_in → ColumnRecord
column c = column_at (sheet_at c.self.inside.scene.sheets c.args.sheet) c.args.column

-- the cells that are searched are those of the column in order
moved : (c : goal.After-seen_in) → IsPermutation (column c).cells c.cells.result.now
moved c =
    subst (λ (xs : List ExposureRecord). IsPermutation (column c).cells xs) (sym c.cells.ensures)
    ((c.self.invariant.index_of.sheets c.args.sheet).cells c.args.column).moved

pub returns-clause-value : goal.returns-clause-value
returns-clause-value c =
    let s = c.self.inside.scene in
    c.seen_in.ensures (column c) (moved c) (cells_apart s c.self.invariant.good c.args.sheet c.args.column)
    ∙ ap (λ (s : SceneRecord). cell_at (column_at (sheet_at s.sheets c.args.sheet) c.args.column) c.args.row) c.self.view_is

pub returns-clause-there : goal.returns-clause-there
returns-clause-there c =
    let s = c.self.inside.scene in
    subst (λ (s : SceneRecord). IsSeen s c.seen_in.result) c.self.view_is
    (subst (IsSeen s) (sym (c.seen_in.ensures (column c) (moved c) (cells_apart s c.self.invariant.good c.args.sheet c.args.column)))
    (cell_there s c.self.invariant.good c.args.sheet c.args.column c.args.row (find (covers c.args.row) (column c).cells)
    (c.cells_are_chosen_by_row.ensures.own (column c) c.args.row)))
