use Rattle.std.proofs.Common.{add-zero, zero-add, refl}
use Rattle.xs_pixel.proofs.Products.{product-zero_left, product-opaque}
use Rattle.xs_pixel.proofs.laws.clear_input_vanishes.Goals as goal

pub returns-clause-over_first : goal.returns-clause-over_first
returns-clause-over_first c = λ p _. simp (product-opaque, zero-add) refl

pub returns-clause-over_second : goal.returns-clause-over_second
returns-clause-over_second c = λ p. simp (product-zero_left, add-zero) refl

pub returns-clause-matte_out_second : goal.returns-clause-matte_out_second
returns-clause-matte_out_second c = λ p. simp product-opaque refl
