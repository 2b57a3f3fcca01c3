use Rattle.std.proofs.Common.{is_some, ap}
use Rattle.xs_word_tests.proofs.making.serve_in_time.Goals as goal

pub returns-in-Some-clause-served : goal.returns-in-Some-clause-served
returns-in-Some-clause-served g c = λ some. c.in_ok-served.ensures.served (ap (λ r. is_some r) c.in-Some.is)
