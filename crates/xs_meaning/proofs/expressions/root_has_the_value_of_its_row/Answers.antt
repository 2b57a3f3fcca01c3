use Rattle.xs_meaning.proofs.SameValue.{value-root_of, value-row_expr, value-input_expr}
use Rattle.xs_meaning.proofs.expressions.root_has_the_value_of_its_row.Goals as goal

pub returns : goal.returns
returns c = record { root = value-root_of; rows = value-row_expr; inputs = value-input_expr }
