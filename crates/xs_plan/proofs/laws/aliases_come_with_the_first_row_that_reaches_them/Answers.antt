use Rattle.xs_plan.proofs.FirstRowLemmas.{first_row-there, no_earlier_row}
use Rattle.xs_plan.proofs.laws.aliases_come_with_the_first_row_that_reaches_them.Goals as goal

pub returns-clause-there : goal.returns-clause-there
returns-clause-there c = first_row-there

pub returns-clause-reached : goal.returns-clause-reached
returns-clause-reached c = λ p is. is.first

pub returns-clause-no_earlier : goal.returns-clause-no_earlier
returns-clause-no_earlier c = no_earlier_row
