use Rattle.std.proofs.Common.{◌≡◌, ◌<◌, ◌∙◌, ap, sym, subst, arith, None}
use Rattle.std.proofs.lemmas.List.{get_or_read}
use Rattle.xs_chain.specs.Row.{Row, list_with}
use Rattle.xs_chain.specs.Ring.{owner_at}
use Rattle.xs_chain.proofs.Held.{list_with-owner}
use Rattle.xs_chain.proofs.Kept.{row_valid}
use Rattle.xs_chain.proofs.chains.Chains.list_of.Goals as goal

pub returns-clause-list : goal.returns-clause-list
returns-clause-list c =
    let m_in = subst (λ (r : Row). c.args.m < r.members) (sym c.self.view_is) c.requires in
    let h = c.self.invariant in
    let here : c.index.result.now ≡ owner_at c.self.inside.owners.items c.args.m =
    get_or_read c.self.inside.owners.items c.args.m _ (omega (arith, h.owners_long, m_in)) c.index.ensures None in
    here
    ∙ sym (list_with-owner _ _ _ _ _ _ h m_in)
    ∙ ap (λ (r : Row). list_with r c.args.m) c.self.view_is

pub returns-clause-valid : goal.returns-clause-valid
returns-clause-valid c = row_valid _ _ _ _ _ c.self.view_is c.self.invariant
