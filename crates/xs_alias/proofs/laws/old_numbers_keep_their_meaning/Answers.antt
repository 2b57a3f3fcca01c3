use Rattle.xs_alias.proofs.Meaning.{meaning-append, meaning-given}
use Rattle.xs_alias.proofs.laws.old_numbers_keep_their_meaning.Goals as goal

pub returns : goal.returns
returns c = record { keys = meaning-append; given = meaning-given }
