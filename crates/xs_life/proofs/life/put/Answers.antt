use Rattle.xs_life.proofs.AliveLemmas.{alive_made}
use Rattle.xs_life.proofs.life.put.Goals as goal

pub finish-requires-clause-claimed : goal.finish-requires-clause-claimed
finish-requires-clause-claimed g c = c.seats_may_go_on.ensures.claimed _ _ _ c.args.k c.look_over.ensures c.in-Won.ensures.told

pub returns-in-Won-clause-alive : goal.returns-in-Won-clause-alive
returns-in-Won-clause-alive g c = λ won. alive_made _ _ _ c.args.k c.requires.alive c.in-Won.ensures.told c.finish.ensures.told
