use Rattle.std.proofs.Common.{◌≡◌, ◌&&◌, ℕ, Bool, List, [], slice_index_or, ap, ap₂, ◌∙◌}
use Rattle.std.proofs.lemmas.List.{get_or_default}
use Rattle.xs_stays.specs.Sets.{styles_in}
use Rattle.xs_build.proofs.build.Build.counting.Goals as goal

pub returns-clause-both : goal.returns-clause-both
returns-clause-both c =
    let sets = c.args.self.now.sets.keys in
    let was = c.index-as_slice-dropped.result in
    let set : was ≡ slice_index_or sets c.args.dropped [] =
    c.index-as_slice-dropped.is
    ∙ ap (λ (sets : List (List Bool)). slice_index_or sets c.args.dropped was) c.as_slice.ensures.keys
    ∙ get_or_default sets c.args.dropped was [] c.requires.dropped in
    let both : (ℕ → Bool) → (ℕ → Bool) → ℕ → Bool = λ f g style. f style && g style in
    c.in_ok-k.ensures.styles ∙ c.in_ok-set.ensures ∙ ap₂ both c.styles.ensures (ap styles_in set)
