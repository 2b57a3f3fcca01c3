use Rattle.std.proofs.Common.{not}
use Rattle.std.proofs.lemmas.Bool.Decides.{Decides-not}
use Rattle.xs_fault.specs.Paths.{path_of}
use Rattle.xs_graph.specs.Paths.{LiesOnCycle}
use Rattle.xs_graph.specs.Cycles.{lies_on_cycle}
use Rattle.xs_check.specs.Passes.{cycle_fault}
use Rattle.xs_check.proofs.Findings.{first_told}
use Rattle.xs_check.proofs.cycles.no_cycles.Goals as goal

pub returns : goal.returns
unfolding cycle_fault
returns c =
    let links = c.args.links.now in
    first_told (λ i. LiesOnCycle links i → ⊥) (λ i targets. not (lies_on_cycle links i)) c.args.code (path_of c.args.field c.args.at.now) links
    (λ i targets below. Decides-not (lies_on_cycle links i) (c.cycles_are_told_node_by_node.ensures links i)) _ c.tell_first.result
    c.in_ok-first.ensures c.tell_first.ensures
