use Rattle.std.proofs.Common.{◌≡◌, None, replicate}
use Rattle.xs_chain.proofs.chains.none_owned.Given as goal

abbrev pub invariant-loop-member : goal.invariant-loop-member
invariant-loop-member l = l.owners.items ≡ replicate l._member None
