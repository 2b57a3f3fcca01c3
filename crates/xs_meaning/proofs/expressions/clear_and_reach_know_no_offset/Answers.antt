use Rattle.std.proofs.Common.{sym, ap, ◌∙◌, is_none, unwrap_or}
use Rattle.xs_meaning.specs.Expressions.{row_expr, input_expr}
use Rattle.xs_meaning.proofs.ExtentLemmas.{is_none-extent_of, unwrap_or-extent_of, extent-row_expr, extent-input_expr}
use Rattle.xs_meaning.proofs.expressions.clear_and_reach_know_no_offset.Goals as goal

pub returns : goal.returns
returns c = record {
  clear_rows = λ s k row f o. sym (is_none-extent_of (row_expr s k row f o)) ∙ ap is_none (extent-row_expr s k row f o);
  clear_inputs = λ s k n row f o. sym (is_none-extent_of (input_expr s k n row f o)) ∙ ap is_none (extent-input_expr s k n row f o);
  reach_of_rows = λ s k row f o. sym (unwrap_or-extent_of (row_expr s k row f o)) ∙ ap (λ e. unwrap_or e 0) (extent-row_expr s k row f o);
  reach_of_inputs = λ s k n row f o. sym (unwrap_or-extent_of (input_expr s k n row f o)) ∙ ap (λ e. unwrap_or e 0) (extent-input_expr s k n row f o);
}
