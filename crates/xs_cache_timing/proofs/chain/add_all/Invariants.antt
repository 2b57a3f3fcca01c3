use Rattle.std.proofs.Common.{◌≡◌, ◌+◌}
use Rattle.xs_cache_timing.specs.Chains.{IsChain}
use Rattle.xs_cache_timing.proofs.chain.add_all.Given as goal

abbrev pub invariant-loop-pair : goal.invariant-loop-pair
invariant-loop-pair l = record {
  chain : IsChain l.b l.last l.tile;
  last : l.last + 1 ≡ l._pair;
}
