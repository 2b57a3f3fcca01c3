use Rattle.xs_meaning.proofs.ChosenCells.{cell_at-own, cell_at-only, cell_at-gap}
use Rattle.xs_meaning.proofs.rules.cells_are_chosen_by_row.Goals as goal

pub returns : goal.returns
returns c = record { own = cell_at-own; shown = cell_at-only; gap = cell_at-gap }
