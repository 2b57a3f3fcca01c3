use Rattle.std.proofs.Common.{ℕ, Bool, sym, ap, ◌∙◌}
use Rattle.xs_stays.proofs.Sets.{up_to_last-same}
use Rattle.xs_stays.proofs.laws.a_set_has_one_list_of_flags.Goals as goal

pub returns : goal.returns
returns c = λ flags others short other_short same.
    sym short ∙ up_to_last-same flags others (λ i. ap (λ (f : ℕ → Bool). f i) same) ∙ other_short
