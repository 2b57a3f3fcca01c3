use Rattle.xs_plan.proofs.EdgeLemmas.{sources-edges, edges-port, edges-root, sources-there}
use Rattle.xs_plan.proofs.laws.reads_have_their_sources.Goals as goal

pub returns-clause-sources : goal.returns-clause-sources
returns-clause-sources c = sources-edges

pub returns-clause-ports : goal.returns-clause-ports
returns-clause-ports c = edges-port

pub returns-clause-roots : goal.returns-clause-roots
returns-clause-roots c = edges-root

pub returns-clause-exist : goal.returns-clause-exist
returns-clause-exist c = sources-there
