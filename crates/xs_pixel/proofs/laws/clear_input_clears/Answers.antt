use Rattle.std.proofs.Common.{refl}
use Rattle.xs_pixel.proofs.Products.{product-zero_left, product-zero_right}
use Rattle.xs_pixel.proofs.laws.clear_input_clears.Goals as goal

pub returns-clause-mult_first : goal.returns-clause-mult_first
returns-clause-mult_first c = λ p. simp product-zero_left refl

pub returns-clause-mult_second : goal.returns-clause-mult_second
returns-clause-mult_second c = λ p. simp product-zero_right refl

pub returns-clause-matte_in_first : goal.returns-clause-matte_in_first
returns-clause-matte_in_first c = λ p. simp product-zero_left refl

pub returns-clause-matte_in_second : goal.returns-clause-matte_in_second
returns-clause-matte_in_second c = λ p. simp product-zero_right refl

pub returns-clause-matte_out_first : goal.returns-clause-matte_out_first
returns-clause-matte_out_first c = λ p. simp product-zero_left refl
