use Rattle.std.proofs.Common.{◌≡◌, ◌∙◌, sym, ap, false, Option, Some, None, refl, ℕ}
use Rattle.std.specs.Prelude.{is_some}
use Rattle.xs_chain.specs.Row.{Row, list_with}
use Rattle.xs_chain.proofs.Kept.{list_with-without, without-none}
use Rattle.xs_chain.proofs.chains.Chains.leave.Goals as goal

none_since : (o : Option ℕ) → is_some o ≡ false → o ≡ None
none_since None fails = refl
none_since (Some x) fails = absurd (cc)

pub returns-then-is_some-clause-in_no_list : goal.returns-then-is_some-clause-in_no_list
returns-then-is_some-clause-in_no_list c =
    ap (λ (r : Row). list_with r c.args.m) c.unlink.ensures ∙ list_with-without c.args.self.now c.args.m

pub returns-else-is_some-clause-row : goal.returns-else-is_some-clause-row
returns-else-is_some-clause-row c =
    sym (without-none c.args.self.now c.args.m
    (sym c.list_of.ensures.list ∙ none_since _ (sym c.is_some.ensures ∙ c.if-is_some.false)))
