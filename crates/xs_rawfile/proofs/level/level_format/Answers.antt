use Rattle.xs_rawfile.proofs.ReadBack as file
use Rattle.xs_rawfile.proofs.level.level_format.Goals as goal

pub returns-clause-accepted : goal.returns-clause-accepted
returns-clause-accepted c = file.accepted

pub returns-clause-read_back : goal.returns-clause-read_back
returns-clause-read_back c = file.read_back

pub returns-clause-no_other : goal.returns-clause-no_other
returns-clause-no_other c = file.no_other
