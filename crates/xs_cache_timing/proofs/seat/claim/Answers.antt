use Rattle.xs_cache_timing.proofs.BlockLemmas.{won_next}
use Rattle.xs_cache_timing.proofs.seat.claim.Goals as goal

pub returns-in-Won-clause-won : goal.returns-in-Won-clause-won
returns-in-Won-clause-won g c = won_next c.args.block c.args.k _ _ c.requires.won c.in-Won.ensures.told
