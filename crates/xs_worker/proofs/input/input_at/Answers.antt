use Rattle.std.proofs.Common.{sym}
use Rattle.xs_worker.proofs.input.input_at.Goals as goal

pub read_of-requires-clause-may : goal.read_of-requires-clause-may
read_of-requires-clause-may g c = c.requires.may c.in-Some.e (sym c.in-Some.ensures)
