use Rattle.std.proofs.Common.{refl}
use Rattle.xs_levels_tests.specs.Three.{three}
use Rattle.xs_levels_tests.proofs.stocks.goes_through.Goals as goal

pub returns-clause-stock : goal.returns-clause-stock
returns-clause-stock g c = (c.end.ensures.stock c.args.p.now three (c.in-Done.ensures.stock refl)).0
