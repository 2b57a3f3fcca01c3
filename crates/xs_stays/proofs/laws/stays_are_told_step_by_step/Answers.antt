use Rattle.xs_stays.proofs.SpotStays.{stay-step}
use Rattle.xs_stays.proofs.Shows.{shows-at}
use Rattle.xs_stays.proofs.laws.stays_are_told_step_by_step.Goals as goal

pub returns-clause-clear : goal.returns-clause-clear
returns-clause-clear c = λ s p.
    (shows-at c.tint_is_canonical.ensures.pixels c.tint_is_canonical.ensures.one s p).clear

pub returns-clause-steps : goal.returns-clause-steps
returns-clause-steps c = stay-step
