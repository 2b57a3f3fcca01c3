use Rattle.std.proofs.Common.{is_some, ap}
use Rattle.xs_word_tests.proofs.making.serve_own.Goals as goal

pub returns-in-Some-clause-open : goal.returns-in-Some-clause-open
returns-in-Some-clause-open g c = λ same. c.in_ok-served.ensures.served (ap (λ r. is_some r) c.in-Some.is)
