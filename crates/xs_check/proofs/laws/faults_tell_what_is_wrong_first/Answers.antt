use Rattle.xs_check.proofs.Tells.{first_tells, wrong_told, one_told, none_exactly}
use Rattle.xs_check.proofs.laws.faults_tell_what_is_wrong_first.Goals as goal

pub returns-clause-tells : goal.returns-clause-tells
returns-clause-tells c = λ s fault found.
    first_tells c.cycles_are_told_node_by_node.ensures c.chains_are_told_link_by_link.ensures s fault found

pub returns-clause-told : goal.returns-clause-told
returns-clause-told c = λ s code at tells.
    wrong_told c.cycles_are_told_node_by_node.ensures c.chains_are_told_link_by_link.ensures s code at tells

pub returns-clause-none : goal.returns-clause-none
returns-clause-none c = λ s. none_exactly c.cycles_are_told_node_by_node.ensures c.chains_are_told_link_by_link.ensures s

pub returns-clause-one : goal.returns-clause-one
returns-clause-one c = λ s code at tells one.
    one_told c.cycles_are_told_node_by_node.ensures c.chains_are_told_link_by_link.ensures s code at tells one
