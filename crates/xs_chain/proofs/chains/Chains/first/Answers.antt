use Rattle.std.proofs.Common.{◌∙◌}
use Rattle.xs_chain.proofs.Kept.{held_first, row_valid}
use Rattle.xs_chain.proofs.chains.Chains.first.Goals as goal

pub returns-clause-member : goal.returns-clause-member
returns-clause-member c =
    c.member.ensures ∙ held_first _ _ _ _ _ _ _ c.self.view_is c.self.invariant c.requires c.index.ensures

pub returns-clause-valid : goal.returns-clause-valid
returns-clause-valid c = row_valid _ _ _ _ _ c.self.view_is c.self.invariant
