use Rattle.xs_check.proofs.Tells.{in_list_first}
use Rattle.xs_check.proofs.laws.lists_tell_their_first_fault.Goals as goal

pub returns : goal.returns
returns g c = λ at find xs fault found. in_list_first at find xs fault found
