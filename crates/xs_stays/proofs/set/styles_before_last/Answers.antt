use Rattle.std.proofs.Common.{arith}
use Rattle.xs_stays.proofs.Sets.{clear-past}
use Rattle.xs_stays.proofs.set.styles_before_last.Goals as goal

pub returns-clause-past : goal.returns-clause-past
returns-clause-past c = λ id le.
    clear-past c.args.p.now c.table.ensures.few.0 c.table.ensures.look_up id (omega (arith, le, c.table.ensures.whole))
