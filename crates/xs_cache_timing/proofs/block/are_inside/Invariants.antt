use Rattle.xs_cache_timing.specs.Blocks.{AreInside}
use Rattle.xs_cache_timing.proofs.block.are_inside.Given as goal

abbrev pub invariant-loop-e : goal.invariant-loop-e
invariant-loop-e l = AreInside l.p l.block l.e
