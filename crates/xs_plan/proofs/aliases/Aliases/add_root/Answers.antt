-- An alias is read at most once for each port and root.
use Rattle.std.proofs.Common.{arith}
use Rattle.xs_plan.proofs.ReadLemmas.{few_counts}
use Rattle.xs_plan.proofs.aliases.Aliases.add_root.Goals as goal

pub count_read-requires-clause-room : goal.count_read-requires-clause-room
count_read-requires-clause-room c = omega (arith, few_counts c.self.invariant c.args.k)
