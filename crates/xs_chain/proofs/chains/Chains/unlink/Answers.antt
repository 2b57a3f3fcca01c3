use Rattle.std.proofs.Common.{sym, ap}
use Rattle.xs_chain.specs.Row.{Row, without}
use Rattle.xs_chain.proofs.Kept.{held_unlink, ring_held, row_held}
use Rattle.xs_chain.proofs.chains.Chains.unlink.Goals as goal

pub invariant_of-self : goal.invariant_of-self
invariant_of-self c =
    ring_held _ _ _ _ _
    (held_unlink _ _ _ _ _ _ _ _ c.self.view_is c.self.invariant c.requires.member_exists c.requires.in_a_list
    c.index-before.ensures c.index-next.ensures)

pub returns : goal.returns
returns c =
    row_held _ _ _ _ (without c.args.self.now c.args.m) (ap (λ (r : Row). r.members) (sym c.self.view_is))
    (held_unlink _ _ _ _ _ _ _ _ c.self.view_is c.self.invariant c.requires.member_exists c.requires.in_a_list
    c.index-before.ensures c.index-next.ensures)
