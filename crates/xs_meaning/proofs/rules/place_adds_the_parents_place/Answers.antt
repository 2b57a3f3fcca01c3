use Rattle.xs_meaning.proofs.Depth.{place_of-peg}
use Rattle.xs_meaning.proofs.rules.place_adds_the_parents_place.Goals as goal

pub returns : goal.returns
returns c = λ s ends k i row lt. place_of-peg s.sheets ends k i row lt
