use Rattle.xs_plan.proofs.HeldLemmas.{needs-by_aliases, last_section-is, no_last_section}
use Rattle.xs_plan.proofs.laws.sections_need_the_drawings_of_their_aliases.Goals as goal

pub returns-clause-needs : goal.returns-clause-needs
returns-clause-needs c = needs-by_aliases

pub returns-clause-last : goal.returns-clause-last
returns-clause-last c = last_section-is

pub returns-clause-none : goal.returns-clause-none
returns-clause-none c = no_last_section
