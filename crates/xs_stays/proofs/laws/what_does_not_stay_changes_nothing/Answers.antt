use Rattle.std.proofs.Common.{refl, sym, ◌∙◌}
use Rattle.std.proofs.lemmas.Bool.{false≢true}
use Rattle.xs_stays.proofs.Shows.{shows-at}
use Rattle.xs_stays.proofs.laws.what_does_not_stay_changes_nothing.Goals as goal

pub returns-clause-offset : goal.returns-clause-offset
returns-clause-offset c = λ s p f o q none.
    (shows-at c.tint_is_canonical.ensures.pixels c.tint_is_canonical.ensures.one s p).same f f o q
    (record { offset = λ is. absurd (false≢true (sym none ∙ is)); dropped = λ style is. refl })

pub returns-clause-dropped : goal.returns-clause-dropped
returns-clause-dropped c = λ s p f g o alike.
    (shows-at c.tint_is_canonical.ensures.pixels c.tint_is_canonical.ensures.one s p).same f g o o
    (record { offset = λ is. refl; dropped = alike })
