use Rattle.std.proofs.Common.{[]}
use Rattle.xs_demand.proofs.ClosedLists.{enter-pair, enter-blur, enter_closed, enter_enters, enter_keeps, enter_old, rows_closed, nothing_closed}
use Rattle.xs_demand.proofs.blocks.entering_needs_no_look_before_the_inputs.Goals as goal

pub returns : goal.returns
returns c = record {
  pair = enter-pair;
  blur = enter-blur;
  closed = enter_closed;
  closed_rows = λ roots. rows_closed roots [] nothing_closed;
  entered = enter_enters;
  kept = enter_keeps;
  again = enter_old;
}
