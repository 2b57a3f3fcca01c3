use Rattle.std.proofs.Common.{refl}
use Rattle.xs_pixel.specs.Operations.{product}
use Rattle.xs_pixel.proofs.operation.mul255.Goals as goal

pub returns-clause-value : goal.returns-clause-value
unfolding product
returns-clause-value c = refl
