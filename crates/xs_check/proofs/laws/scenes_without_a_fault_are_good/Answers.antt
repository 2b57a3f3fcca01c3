use Rattle.xs_check.proofs.Goods.{good_scene}
use Rattle.xs_check.proofs.laws.scenes_without_a_fault_are_good.Goals as goal

pub returns-clause-good : goal.returns-clause-good
returns-clause-good c = λ s none ranges.
    (good_scene c.cycles_are_told_node_by_node.ensures c.chains_are_told_link_by_link.ensures c.chains_without_a_cycle_are_short.ensures s none).0 ranges

pub returns-clause-ends : goal.returns-clause-ends
returns-clause-ends c = λ s none.
    (good_scene c.cycles_are_told_node_by_node.ensures c.chains_are_told_link_by_link.ensures c.chains_without_a_cycle_are_short.ensures s none).1
