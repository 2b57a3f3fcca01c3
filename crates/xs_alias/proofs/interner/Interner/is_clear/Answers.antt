use Rattle.std.proofs.Common.{◌∙◌}
use Rattle.xs_alias.proofs.Meaning.{is_clear-meaning}
use Rattle.xs_alias.proofs.interner.Interner.is_clear.Goals as goal

pub returns : goal.returns
returns c = λ tints.
    c.is_nothing.ensures
    ∙ is_clear-meaning tints c.args.self.now c.key.ensures.numbering c.args.n c.key.result c.key.ensures.key
