use Rattle.std.proofs.Common.{refl}
use Rattle.xs_chain.specs.Row.{all_empty}
use Rattle.xs_chain.proofs.Changed.{holds_empty}
use Rattle.xs_chain.proofs.Kept.{ring_held, row_held}
use Rattle.xs_chain.proofs.chains.Chains.new.Goals as goal

pub invariant_of-result : goal.invariant_of-result
invariant_of-result c =
    ring_held _ _ _ _ _
    (holds_empty c.args.members c.args.lists _ _ _ c.in_ok-nexts.ensures c.in_ok-befores.ensures c.in_ok-owners.ensures)

pub returns : goal.returns
returns c =
    row_held _ _ _ _ (all_empty c.args.members c.args.lists) refl
    (holds_empty c.args.members c.args.lists _ _ _ c.in_ok-nexts.ensures c.in_ok-befores.ensures c.in_ok-owners.ensures)
