use Rattle.xs_worker.proofs.Columns.{section_roots_are}
use Rattle.xs_worker.proofs.laws.targets_of_a_section_are_its_roots.Goals as goal

pub returns : goal.returns
returns c = section_roots_are
