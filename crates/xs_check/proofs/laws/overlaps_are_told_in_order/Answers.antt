use Rattle.std.proofs.Common.{refl}
use Rattle.xs_check.specs.Finding.{in_list}
use Rattle.xs_check.specs.Passes.{level_reference_fault, cell_reference_fault, node_reference_fault, apart_fault, file_fault}
use Rattle.xs_check.proofs.laws.overlaps_are_told_in_order.Goals as goal

pub returns-clause-palette : goal.returns-clause-palette
unfolding in_list level_reference_fault cell_reference_fault node_reference_fault apart_fault file_fault
returns-clause-palette c = λ file peg_row cell_row. refl

pub returns-clause-drawing : goal.returns-clause-drawing
unfolding in_list level_reference_fault cell_reference_fault node_reference_fault apart_fault file_fault
returns-clause-drawing c = λ peg_row cell_row. refl

pub returns-clause-peg : goal.returns-clause-peg
unfolding in_list level_reference_fault cell_reference_fault node_reference_fault apart_fault file_fault
returns-clause-peg c = λ cell_row. refl

pub returns-clause-cell : goal.returns-clause-cell
unfolding in_list level_reference_fault cell_reference_fault node_reference_fault apart_fault file_fault
returns-clause-cell c = refl
