use Rattle.std.proofs.Common.{◌∙◌}
use Rattle.xs_chain.proofs.Kept.{held_next, row_valid}
use Rattle.xs_chain.proofs.chains.Chains.next.Goals as goal

pub returns-clause-member : goal.returns-clause-member
returns-clause-member c =
    c.member.ensures
    ∙ held_next _ _ _ _ _ _ _ c.self.view_is c.self.invariant c.requires.member_exists c.requires.in_a_list c.index.ensures

pub returns-clause-valid : goal.returns-clause-valid
returns-clause-valid c = row_valid _ _ _ _ _ c.self.view_is c.self.invariant
