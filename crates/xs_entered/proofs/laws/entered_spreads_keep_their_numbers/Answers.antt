use Rattle.xs_entered.proofs.Keeping.{enter_keeps, enter_spreads, enter_more}
use Rattle.xs_entered.proofs.laws.entered_spreads_keep_their_numbers.Goals as goal

pub returns-clause-entered : goal.returns-clause-entered
returns-clause-entered c = λ old new e g n m entered here. enter_keeps old new e g n m entered here

pub returns-clause-spreads : goal.returns-clause-spreads
returns-clause-spreads c = λ old new e g n m entered here. enter_spreads old new e g n m entered here

pub returns-clause-enter_more : goal.returns-clause-enter_more
returns-clause-enter_more c = λ old new e g n entered. enter_more old new e g n entered
