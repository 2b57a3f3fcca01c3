use Rattle.xs_alias.proofs.Meaning.{meaning_is}
use Rattle.xs_alias.proofs.laws.numbers_mean_their_keys.Goals as goal

pub returns : goal.returns
returns c = meaning_is
