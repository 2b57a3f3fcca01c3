use Rattle.xs_core.proofs.RunLemmas.{claims-started, finishes-ready, abandons-lost, retires-served}
use Rattle.xs_core.proofs.laws.each_thing_happens_once.Goals as goal

pub returns-clause-claims : goal.returns-clause-claims
returns-clause-claims c = claims-started

pub returns-clause-finishes : goal.returns-clause-finishes
returns-clause-finishes c = finishes-ready

pub returns-clause-abandons : goal.returns-clause-abandons
returns-clause-abandons c = abandons-lost

pub returns-clause-retires : goal.returns-clause-retires
returns-clause-retires c = retires-served
