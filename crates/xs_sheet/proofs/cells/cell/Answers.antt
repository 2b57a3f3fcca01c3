use Rattle.std.proofs.Common.{◌≡◌, ◌≤◌, length, sym, ap, ◌∙◌, subst, ltb-false, List}
use Rattle.xs_scene.specs.Records.{SheetRecord, ColumnRecord}
use Rattle.xs_sheet.proofs.ShownCells.{cell_at-no_column}
use Rattle.xs_sheet.proofs.cells.cell.Goals as goal

pub returns-in-None : goal.returns-in-None
returns-in-None c =
    let columns : c.items.result.now ≡ c.args.s.now.columns = c.items.ensures ∙ ap (λ (k : SheetRecord). k.columns) c.s.view_is in
    let past : length c.items.result.now ≤ c.args.col = ltb-false c.args.col (length c.items.result.now) (sym c.in-None.ensures.lookup.0) in
    cell_at-no_column c.args.s.now c.args.col c.args.row (subst (λ (xs : List ColumnRecord). length xs ≤ c.args.col) columns past)
