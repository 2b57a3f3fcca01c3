-- There are at most two reads at ports for each alias.
use Rattle.std.proofs.Common.{arith}
use Rattle.xs_plan.proofs.ReadLemmas.{few_owners}
use Rattle.xs_plan.proofs.aliases.Aliases.reads.Goals as goal

pub overflow_cast-result : goal.overflow_cast-result
overflow_cast-result c = omega (arith, few_owners c.self.invariant, c.self.inside.owners.ok.0)

pub overflow_add-result : goal.overflow_add-result
overflow_add-result c =
    omega (arith, few_owners c.self.invariant, c.self.inside.owners.ok.0, c.self.inside.roots.ok.0, c.self.invariant.few_roots)
