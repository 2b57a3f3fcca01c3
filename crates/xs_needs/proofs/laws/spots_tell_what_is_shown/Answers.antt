use Rattle.xs_needs.proofs.Showings.{drawings-row_expr, clear-row_expr, shown-step}
use Rattle.xs_needs.proofs.laws.spots_tell_what_is_shown.Goals as goal

pub returns : goal.returns
returns c = record { drawings = drawings-row_expr; clear = clear-row_expr; steps = shown-step }
