use Rattle.xs_pixel.proofs.Products.{product_is_at_most, product_is_at_least, nearest_is_product}
use Rattle.xs_pixel.proofs.laws.product_is_nearest.Goals as goal

pub returns-clause-above : goal.returns-clause-above
returns-clause-above c = product_is_at_most

pub returns-clause-below : goal.returns-clause-below
returns-clause-below c = product_is_at_least

pub returns-clause-only : goal.returns-clause-only
returns-clause-only c = nearest_is_product
