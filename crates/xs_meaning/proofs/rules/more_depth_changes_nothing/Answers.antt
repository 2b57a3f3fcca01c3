use Rattle.xs_meaning.specs.Expressions.{by_offsets}
use Rattle.xs_meaning.specs.RowValues.{by_points}
use Rattle.xs_meaning.proofs.Depth.{whole_row-deeper, whole_input-deeper}
use Rattle.xs_meaning.proofs.rules.more_depth_changes_nothing.Goals as goal

pub returns : goal.returns
returns c = record {
  row_values = λ s pictures ends more k row f. whole_row-deeper (by_points s pictures) s.sheets ends more k row f;
  row_exprs = λ s ends more k row f. whole_row-deeper (by_offsets s) s.sheets ends more k row f;
  values = λ s pictures ends more k n row f. whole_input-deeper (by_points s pictures) s.sheets ends more k n row f;
}
