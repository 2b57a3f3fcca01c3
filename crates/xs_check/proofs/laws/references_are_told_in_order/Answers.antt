use Rattle.std.proofs.Common.{refl}
use Rattle.xs_check.specs.Finding.{in_list}
use Rattle.xs_check.specs.Passes.{level_reference_fault, cell_reference_fault, node_reference_fault}
use Rattle.xs_check.proofs.laws.references_are_told_in_order.Goals as goal

pub returns-clause-camera : goal.returns-clause-camera
unfolding in_list level_reference_fault cell_reference_fault node_reference_fault
returns-clause-camera c = λ style palette parent peg level input out. refl

pub returns-clause-palette : goal.returns-clause-palette
unfolding in_list level_reference_fault cell_reference_fault node_reference_fault
returns-clause-palette c = λ palette parent peg level input out. refl

pub returns-clause-level : goal.returns-clause-level
unfolding in_list level_reference_fault cell_reference_fault node_reference_fault
returns-clause-level c = λ parent peg level input out. refl

pub returns-clause-peg : goal.returns-clause-peg
unfolding in_list level_reference_fault cell_reference_fault node_reference_fault
returns-clause-peg c = λ peg level input out. refl

pub returns-clause-column : goal.returns-clause-column
unfolding in_list level_reference_fault cell_reference_fault node_reference_fault
returns-clause-column c = λ level input out. refl

pub returns-clause-cell : goal.returns-clause-cell
unfolding in_list level_reference_fault cell_reference_fault node_reference_fault
returns-clause-cell c = λ input out. refl

pub returns-clause-node : goal.returns-clause-node
unfolding in_list level_reference_fault cell_reference_fault node_reference_fault
returns-clause-node c = λ out. refl

pub returns-clause-out : goal.returns-clause-out
unfolding in_list level_reference_fault cell_reference_fault node_reference_fault
returns-clause-out c = refl
