use Rattle.xs_alias.proofs.Different.{different}
use Rattle.xs_alias.proofs.laws.equal_expressions_have_equal_numbers.Goals as goal

pub returns : goal.returns
returns c = record {
  keys = λ keys numbering. numbering.distinct;
  expressions = λ tints keys numbering differ tinted. different tints differ keys numbering tinted;
}
