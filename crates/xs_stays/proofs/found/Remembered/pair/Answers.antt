use Rattle.std.proofs.Common.{Option, is_none, sym, ap₂, subst}
use Rattle.xs_meaning.specs.Expressions.{staying}
use Rattle.xs_stays.specs.declared.found.Found.{Found}
use Rattle.xs_stays.specs.Found.{stay_of, IsFound}
use Rattle.xs_stays.specs.Stays.{stay_staying}
use Rattle.xs_stays.proofs.Numbered.{found-joined}
use Rattle.xs_stays.proofs.found.Remembered.pair.Goals as goal

pub returns-in_ok-joined-in-Some-Some-clause-found : goal.returns-in_ok-joined-in-Some-Some-clause-found
returns-in_ok-joined-in-Some-Some-clause-found c =
    let sets = c.args.self.now.sets.keys in
    let found = c.in_ok-joined-in-Some-Some in
    subst (IsFound c.joined.new.self.sets.keys _)
    (ap₂ (λ (x y : Option Found). stay_staying (staying c.args.op (is_none x) (is_none y)) (stay_of sets x) (stay_of sets y))
    (sym c.in-Some-Some.is-0) (sym c.in-Some-Some.is-1))
    (found-joined sets c.joined.new.self.sets.keys c.in-Some-Some.first c.in-Some-Some.second found.field-0
    found.ensures.within found.ensures.drawing found.ensures.styles)
