use Rattle.std.proofs.Common.{ℕ, Bool, ◌||◌, ap₂, ◌∙◌}
use Rattle.xs_stays.proofs.found.Remembered.joined.Goals as goal

pub returns-clause-styles : goal.returns-clause-styles
returns-clause-styles c =
    let or : (ℕ → Bool) → (ℕ → Bool) → ℕ → Bool = λ f g style. f style || g style in
    c.in_ok-styles.ensures.styles ∙ c.in_ok-both.ensures
    ∙ ap₂ or c.styles.ensures c.styles-2.ensures
