use Rattle.std.proofs.Common.{◌∙◌}
use Rattle.std.proofs.lemmas.List.{map-id}
use Rattle.xs_lanes.proofs.Products.{products_are, products_fit}
use Rattle.xs_lanes.proofs.lanes.products.Goals as goal

pub overflow_cast-result : goal.overflow_cast-result
overflow_cast-result c = products_fit c.args.x c.args.y c.fits-x.0 c.fits-x.1 c.fits-y.1

pub returns-clause-value : goal.returns-clause-value
returns-clause-value c = map-id _ ∙ products_are c.args.x c.args.y c.fits-x.0 c.fits-x.1 c.fits-y.1
