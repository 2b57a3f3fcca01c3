use Rattle.xs_meaning.proofs.LeafOffsets.{LeavesWithin-row_expr, LeavesWithin-root_of}
use Rattle.xs_meaning.proofs.expressions.offsets_of_drawings_are_bounded.Goals as goal

pub returns : goal.returns
returns c = record { rows = LeavesWithin-row_expr; roots = LeavesWithin-root_of }
