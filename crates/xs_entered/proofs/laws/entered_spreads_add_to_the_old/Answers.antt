use Rattle.xs_entered.proofs.Adding.{count_adds, inputs_add, tints_keep, tints_grow, tints_few}
use Rattle.xs_entered.proofs.laws.entered_spreads_add_to_the_old.Goals as goal

pub returns : goal.returns
returns c =
    record { count = count_adds; inputs = inputs_add; tints = tints_keep; more_tints = tints_grow; few_tints = tints_few }
