use Rattle.xs_cache_threads.specs.Crews.{AreBlocks}
use Rattle.xs_cache_threads.proofs.crew.least_by_four.Given as goal

abbrev pub invariant-loop-round : goal.invariant-loop-round
invariant-loop-round g l = AreBlocks l.p l.blocks
