use Rattle.std.proofs.Common.{refl}
use Rattle.xs_meaning.specs.Expressions.{value_of}
use Rattle.xs_meaning.proofs.Blurs.{blurred-clear}
use Rattle.xs_meaning.proofs.Vanishing.{value-pair_of, value-blur_of}
use Rattle.xs_meaning.proofs.expressions.clear_inputs_vanish.Goals as goal

pub returns : goal.returns
returns c = record {
  pair = λ s pictures op a b p upper lower. value-pair_of s pictures op a b p (value_of s pictures a p) (value_of s pictures b p) refl refl upper lower;
  blur = value-blur_of;
  blur_of_clear = blurred-clear;
}
