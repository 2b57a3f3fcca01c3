use Rattle.xs_make.proofs.Accepted.{are_accepted, are_faultless, few_bytes}
use Rattle.xs_make.proofs.laws.generated_files_are_accepted.Goals as goal

pub returns-clause-accepted : goal.returns-clause-accepted
returns-clause-accepted c = λ seed rows d there. are_accepted c.level_format.ensures.accepted seed rows d there

pub returns-clause-faultless : goal.returns-clause-faultless
returns-clause-faultless c = λ seed rows d there. are_faultless c.level_format.ensures.accepted seed rows d there

pub returns-clause-small : goal.returns-clause-small
returns-clause-small c = λ seed rows d. few_bytes c.level_format.ensures.accepted c.level_format.ensures.read_back seed rows d
