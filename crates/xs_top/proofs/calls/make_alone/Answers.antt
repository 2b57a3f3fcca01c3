use Rattle.std.proofs.Common.{None}
use Rattle.xs_top.proofs.Computed.{alone_made, alone_made_not}
use Rattle.xs_top.proofs.calls.make_alone.Goals as goal

pub returns-in-Ok-clause-ran : goal.returns-in-Ok-clause-ran
returns-in-Ok-clause-ran g c = c.in-Ok.ensures.ran None None 0

pub returns-in-Err-clause-ran : goal.returns-in-Err-clause-ran
returns-in-Err-clause-ran g c = c.in-Err.ensures.ran None None 0

pub returns-in-Ok-clause-once : goal.returns-in-Ok-clause-once
returns-in-Ok-clause-once g c = alone_made _ _ _ _ c.in-Ok.ensures.once c.in-Ok.ensures.twice

pub returns-in-Err-clause-once : goal.returns-in-Err-clause-once
returns-in-Err-clause-once g c = alone_made_not _ _ _ _ _ c.requires.open c.in-Err.ensures.fails c.in-Err.ensures.twice
