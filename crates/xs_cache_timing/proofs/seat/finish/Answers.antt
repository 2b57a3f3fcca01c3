use Rattle.xs_cache_timing.proofs.BlockLemmas.{has_claimed, made_next}
use Rattle.xs_cache_timing.proofs.seat.finish.Goals as goal

pub finish-requires-clause-claimed : goal.finish-requires-clause-claimed
finish-requires-clause-claimed g c =
    has_claimed c.args.block c.args.k (g.D.Desk.view c.args.desk.now) c.requires.made c.requires.own.0 c.requires.own.1

pub returns-clause-made : goal.returns-clause-made
returns-clause-made g c =
    made_next c.args.block c.args.k (g.D.Desk.view c.args.desk.now) (g.D.Desk.view c.finish.new.self) c.requires.made
    c.finish.ensures.told
