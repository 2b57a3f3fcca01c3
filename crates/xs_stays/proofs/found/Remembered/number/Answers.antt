use Rattle.std.proofs.Common.{ap}
use Rattle.xs_stays.specs.Sets.{styles_in}
use Rattle.xs_stays.proofs.Numbered.{set-put}
use Rattle.xs_stays.proofs.found.Remembered.number.Goals as goal

pub returns-clause-styles : goal.returns-clause-styles
returns-clause-styles c = ap styles_in (set-put c.insert_full.new.self.keys c.in-Ok.k c.args.set c.in-Ok.ensures.stored)
