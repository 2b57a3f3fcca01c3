use Rattle.xs_scene.specs.Ranges.{HasNoLines, HasOldNodes}
use Rattle.xs_scene_read.proofs.sheet.SheetElement.read.Goals as goal

pub returns-clause-known : goal.returns-clause-known
unfolding HasNoLines HasOldNodes
returns-clause-known c = λ one. (c.in_ok-list_or_empty.ensures.known one, c.in_ok-list_or_empty-2.ensures.known one)

pub invariant_of-result : goal.invariant_of-result
invariant_of-result c = record {
  pegs = c.in_ok-list_or_empty.ensures.range;
  columns = c.in_ok-needed.ensures.range;
  numbers = record {
    are_nodes = λ i d lt. (c.in_ok-list_or_empty-2.ensures.range i d lt).0;
    are_refs = c.in_ok-if_there.ensures.range;
  };
  cards = λ i d lt. (c.in_ok-list_or_empty-2.ensures.range i d lt).1;
}
