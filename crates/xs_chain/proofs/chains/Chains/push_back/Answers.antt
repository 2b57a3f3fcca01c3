use Rattle.std.proofs.Common.{sym, ap}
use Rattle.xs_chain.specs.Row.{Row, with_last}
use Rattle.xs_chain.proofs.Kept.{held_push, ring_held, row_held}
use Rattle.xs_chain.proofs.chains.Chains.push_back.Goals as goal

pub invariant_of-self : goal.invariant_of-self
invariant_of-self c =
    ring_held _ _ _ _ _
    (held_push _ _ _ _ _ _ _ _ c.self.view_is c.self.invariant c.requires.list_exists c.requires.member_exists
    c.requires.in_no_list c.index-last.ensures)

pub returns : goal.returns
returns c =
    row_held _ _ _ _ (with_last c.args.self.now c.args.list c.args.m) (ap (λ (r : Row). r.members) (sym c.self.view_is))
    (held_push _ _ _ _ _ _ _ _ c.self.view_is c.self.invariant c.requires.list_exists c.requires.member_exists
    c.requires.in_no_list c.index-last.ensures)
