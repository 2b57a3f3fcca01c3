use Rattle.xs_plan.proofs.LiveLemmas.{live-read_later, none_live-at_end}
use Rattle.xs_plan.proofs.laws.live_aliases_are_read_later.Goals as goal

pub returns-clause-live : goal.returns-clause-live
returns-clause-live c = live-read_later

pub returns-clause-none : goal.returns-clause-none
returns-clause-none c = none_live-at_end
