use Rattle.xs_meaning.proofs.Depth.{seen-ends}
use Rattle.xs_meaning.proofs.rules.seen_sheets_end_sooner.Goals as goal

pub returns : goal.returns
returns c = seen-ends
