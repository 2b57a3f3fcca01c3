use Rattle.xs_cache_timing.specs.Blocks.{IsBlock}
use Rattle.xs_cache_timing.proofs.alone.least_by_one.Given as goal

abbrev pub invariant-loop-round : goal.invariant-loop-round
invariant-loop-round g l = IsBlock l.p l.block
