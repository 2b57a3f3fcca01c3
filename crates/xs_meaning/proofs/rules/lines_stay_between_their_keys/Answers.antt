use Rattle.xs_meaning.proofs.Offsets.{on_line-between}
use Rattle.xs_meaning.proofs.rules.lines_stay_between_their_keys.Goals as goal

pub returns : goal.returns
returns c = on_line-between
