use Rattle.xs_stays.specs.Stays.{stay_at, stay_or}
use Rattle.xs_stays.proofs.Shows.{shows-at, alike-normal}
use Rattle.xs_stays.proofs.laws.what_stays_tells_expressions_apart.Goals as goal

pub returns-clause-offset : goal.returns-clause-offset
returns-clause-offset c = λ s p f g o q stays differ same.
    differ (((shows-at c.tint_is_canonical.ensures.pixels c.tint_is_canonical.ensures.one s p).tells f g o q same).offset stays)

pub returns-clause-dropped : goal.returns-clause-dropped
returns-clause-dropped c = λ s p f g o q style counts differ same.
    differ (((shows-at c.tint_is_canonical.ensures.pixels c.tint_is_canonical.ensures.one s p).tells f g o q same).dropped style counts)

pub returns-clause-normal : goal.returns-clause-normal
returns-clause-normal c = λ s p f g o q first second same.
    alike-normal (stay_or (stay_at s p)) f g o q first second
    ((shows-at c.tint_is_canonical.ensures.pixels c.tint_is_canonical.ensures.one s p).tells f g o q same)
