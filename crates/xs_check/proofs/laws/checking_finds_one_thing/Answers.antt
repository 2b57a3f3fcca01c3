use Rattle.std.proofs.Common.{refl, sym, ◌∙◌}
use Rattle.xs_check.specs.Passes.{first_fault}
use Rattle.xs_check.proofs.laws.checking_finds_one_thing.Goals as goal

pub returns-clause-there : goal.returns-clause-there
returns-clause-there c = λ s. (first_fault s, refl)

pub returns-clause-one : goal.returns-clause-one
returns-clause-one c = λ s found other first second. sym first ∙ second
