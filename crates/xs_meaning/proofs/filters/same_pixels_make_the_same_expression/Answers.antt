use Rattle.xs_meaning.proofs.SamePixels.{row_expr-alike, input_expr-alike, row_expr-palettes_alike}
use Rattle.xs_meaning.proofs.filters.same_pixels_make_the_same_expression.Goals as goal

pub returns : goal.returns
returns c = record { filters = row_expr-alike; filters_on_inputs = input_expr-alike; keys = row_expr-palettes_alike }
