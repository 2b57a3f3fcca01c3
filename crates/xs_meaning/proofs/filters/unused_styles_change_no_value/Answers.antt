use Rattle.xs_meaning.specs.Palettes.{deleting, keeping}
use Rattle.xs_meaning.proofs.UnusedStyles.{row_under-filters, value_under-filters, AgreeOnWords-deleting, AgreeOnWords-keeping}
use Rattle.xs_meaning.proofs.filters.unused_styles_change_no_value.Goals as goal

pub returns : goal.returns
returns c = record {
  deleted = λ s pictures styles none k n row f p. value_under-filters s pictures (deleting styles f) f (AgreeOnWords-deleting styles pictures f none) k n row p;
  kept = λ s pictures styles only k n row f p. value_under-filters s pictures (keeping styles f) f (AgreeOnWords-keeping styles pictures f only) k n row p;
  rows = row_under-filters;
}
