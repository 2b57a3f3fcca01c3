use Rattle.std.proofs.Common.{All, AllPairs, take}
use Rattle.xs_check.proofs.shared.lists_apart.Given as goal

abbrev pub invariant-loop-list : goal.invariant-loop-list
invariant-loop-list g l = All (AllPairs g.T.HasRow.apart) (take l.list-index l.lists)
