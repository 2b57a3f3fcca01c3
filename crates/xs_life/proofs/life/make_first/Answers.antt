use Rattle.std.proofs.Common.{refl}
use Rattle.xs_life.proofs.AliveLemmas.{alive_fresh}
use Rattle.xs_life.proofs.life.make_first.Goals as goal

pub loop-k-init : goal.loop-k-init
loop-k-init g c = (refl, alive_fresh _ c.requires.fresh)
