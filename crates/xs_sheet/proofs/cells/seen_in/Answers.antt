use Rattle.std.proofs.Common.{◌≡◌, true, Some, leb, find, sym, ap, ◌∙◌, arith, le-leb}
use Rattle.std.proofs.lemmas.Bool.{and_from}
use Rattle.xs_scene.specs.Records.{ColumnRecord, ExposureRecord}
use Rattle.xs_meaning.specs.Cells.{covers}
use Rattle.xs_sheet.proofs.ShownCells.{cell_at-found, cell_at-none, find_here, find_past}
use Rattle.xs_sheet.proofs.cells.seen_in.Goals as goal

pub returns-then-row-exposure : goal.returns-then-row-exposure
returns-then-row-exposure c =
    let row = c.args.row in
    let cells = c.items-exposure-items.result.now in
    let i = c.loop-exposure.exposure-index in
    let e = c.exposure-item.result in
    let from_is = ap (λ (x : ExposureRecord). x.from) c.exposure.view_is in
    let to_is = ap (λ (x : ExposureRecord). x.to) c.exposure.view_is in
    let from : leb e.from row ≡ true = le-leb e.from row (omega (arith, from_is)) in
    let to : leb row e.to ≡ true = le-leb row e.to (omega (arith, to_is)) in
    let found : find (covers row) cells ≡ Some e =
    sym c.loop-exposure.invariant ∙ find_here (covers row) cells i e (omega arith) c.exposure-item.is (and_from (leb e.from row) (leb row e.to) from to)
    in
    c.seen_at.ensures
    ∙ cell_at-found c.args.column.now row e
    (ap (λ xs. find (covers row) xs) (sym (ap (λ (column : ColumnRecord). column.cells) c.column.view_is) ∙ sym c.items-exposure-items.ensures) ∙ found)

pub returns : goal.returns
returns c =
    let row = c.args.row in
    let cells = c.items-exposure-items.result.now in
    cell_at-none c.args.column.now row
    (ap (λ xs. find (covers row) xs) (sym (ap (λ (column : ColumnRecord). column.cells) c.column.view_is) ∙ sym c.items-exposure-items.ensures)
    ∙ sym c.loop-exposure.invariant
    ∙ find_past (covers row) cells c.loop-exposure.exposure-index (omega arith))
