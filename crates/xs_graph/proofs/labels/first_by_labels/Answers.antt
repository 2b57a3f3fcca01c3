use Rattle.std.proofs.Common.{length, subst}
use Rattle.xs_base.specs.First.{IsFirstWithout}
use Rattle.xs_graph.specs.Labels.{NeverRise, Falls}
use Rattle.xs_graph.specs.Paths.{Links}
use Rattle.xs_graph.proofs.Levels.{first_on_cycle_told}
use Rattle.xs_graph.proofs.labels.first_by_labels.Goals as goal

pub returns-then-branch : goal.returns-then-branch
returns-then-branch c =
    let links = c.args.links.now in
    let labels = c.args.labels.now in
    let first = c.first_level-first.result in
    first_on_cycle_told links labels
    (subst (λ (l : Links). NeverRise l labels) c.items-nodes.ensures (c.never_rise.ensures.0 (cc c.if-not-never_rise.false)))
    (length links) first
    (subst (λ (l : Links). IsFirstWithout (Falls l labels) (length l) first) c.items-nodes.ensures c.first_level-first.ensures)
    (c.in_ok-is_on_cycle.ensures.0 c.if-branch.true)
