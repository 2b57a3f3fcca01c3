use Rattle.xs_check.proofs.Tells.{tells_checked}
use Rattle.xs_check.proofs.laws.checking_finds_its_codes.Goals as goal

pub returns : goal.returns
returns c = λ s fault found. tells_checked s fault.code fault.path (c.faults_tell_what_is_wrong_first.ensures.tells s fault found)
