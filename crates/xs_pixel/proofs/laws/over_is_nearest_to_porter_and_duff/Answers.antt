use Rattle.std.proofs.Common.{◌-◌, arith}
use Rattle.xs_pixel.proofs.Products.{product_is_at_most, product_is_at_least}
use Rattle.xs_pixel.proofs.laws.over_is_nearest_to_porter_and_duff.Goals as goal

pub returns-clause-above : goal.returns-clause-above
returns-clause-above c = λ u d m. omega (arith, product_is_at_most d (255 - m))

pub returns-clause-below : goal.returns-clause-below
returns-clause-below c = λ u d m. omega (arith, product_is_at_least d (255 - m))
