-- What an error that is passed on says
use Rattle.std.proofs.Common.{◌≡◌, Result, Ok, Err, IsErrAnd, ap}
use Rattle.xs_build.specs.declared.stop.Stop.{Stop}

pub failed-as : {A : Type 0} (r : Result A Stop) (e : Stop) → IsErrAnd r (λ x. x ≡ e) → r ≡ Err e
failed-as (Ok a) e is = absurd is
failed-as (Err x) e is = ap Err is
