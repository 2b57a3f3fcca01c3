use Rattle.std.proofs.Common.{ap}
use Rattle.xs_tint.specs.Filters.{dropped_by}
use Rattle.xs_build.proofs.Remembered.{set_put}
use Rattle.xs_build.proofs.build.Build.number_set.Goals as goal

pub returns-clause-styles : goal.returns-clause-styles
returns-clause-styles c = ap dropped_by (set_put c.insert_full.new.self.keys c.in-Ok.k c.args.set c.in-Ok.ensures.stored)
