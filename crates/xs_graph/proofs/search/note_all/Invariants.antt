use Rattle.std.proofs.Common.{take}
use Rattle.xs_graph.specs.Search.{Grows}
use Rattle.xs_graph.proofs.search.note_all.Given as goal

abbrev pub invariant-loop-number : goal.invariant-loop-number
invariant-loop-number l = Grows l.initial.seen.items l.initial.met.items (take l.number-index l.targets) l.seen.items l.met.items
