use Rattle.xs_core.specs.Runs.{after}
use Rattle.xs_core.proofs.RunLemmas.{kept_after, ready_when_served, once_when_served, gone_when_served}
use Rattle.xs_core.proofs.laws.when_every_read_is_served_nothing_is_left.Goals as goal

pub returns-clause-ready : goal.returns-clause-ready
returns-clause-ready c = λ p plan events ran all k there.
    ready_when_served p (after p events) plan (kept_after p events plan (c.reads_have_their_sources.ensures.exist p plan) ran) all k there

pub returns-clause-once : goal.returns-clause-once
returns-clause-once c = λ p plan events ran all k there.
    once_when_served p events ran k
    (ready_when_served p (after p events) plan (kept_after p events plan (c.reads_have_their_sources.ensures.exist p plan) ran) all k there)

pub returns-clause-gone : goal.returns-clause-gone
returns-clause-gone c = λ p plan events ran all stays k.
    gone_when_served p (after p events) (kept_after p events plan (c.reads_have_their_sources.ensures.exist p plan) ran) all stays k
