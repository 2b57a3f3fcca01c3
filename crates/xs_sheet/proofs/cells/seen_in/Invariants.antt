use Rattle.std.proofs.Common.{◌≡◌, drop, find}
use Rattle.xs_meaning.specs.Cells.{covers}
use Rattle.xs_sheet.proofs.cells.seen_in.Given as goal

abbrev pub invariant-loop-exposure : goal.invariant-loop-exposure
invariant-loop-exposure l =
    find (covers l.row) (drop l.exposure-index l.exposure-items) ≡ find (covers l.row) l.exposure-items
