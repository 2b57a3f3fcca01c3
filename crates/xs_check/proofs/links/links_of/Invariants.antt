use Rattle.std.proofs.Common.{◌≡◌, map, take}
use Rattle.xs_check.proofs.links.links_of.Given as goal

abbrev pub invariant-loop-thing : goal.invariant-loop-thing
invariant-loop-thing g l = l.links.items ≡ map g.T.Naming.named (take l.thing-index l.things)
