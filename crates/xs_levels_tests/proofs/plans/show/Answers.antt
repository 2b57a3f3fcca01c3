use Rattle.std.proofs.Common.{length}
use Rattle.xs_levels_tests.proofs.RowLemmas.{is_entry}
use Rattle.xs_levels_tests.proofs.plans.show.Goals as goal

pub add-requires-clause-valid : goal.add-requires-clause-valid
add-requires-clause-valid c =
    is_entry (length c.args.b.now.plan.tints) c.args.b.now.plan.entries c.args.tile c.args.job c.requires.tile c.requires.job
