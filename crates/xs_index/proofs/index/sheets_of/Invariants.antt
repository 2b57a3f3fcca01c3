use Rattle.std.proofs.Common.{◌≡◌, ◌<◌, ℕ, length, slice_index_or}
use Rattle.xs_meaning.specs.Walk.{no_sheet}
use Rattle.xs_index.specs.Index.{IsSheetIndex, no_lists}
use Rattle.xs_index.proofs.index.sheets_of.Given as goal

abbrev pub invariant-loop-sheet : goal.invariant-loop-sheet
invariant-loop-sheet l =
    (length l.lists.items ≡ l.sheet-index)
    × ((n : ℕ) → n < l.sheet-index → IsSheetIndex (slice_index_or l.sheets n no_sheet) (slice_index_or l.lists.items n no_lists))
