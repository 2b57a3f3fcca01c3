use Rattle.xs_word_tests.proofs.HandLemmas.{free_made}
use Rattle.xs_word_tests.proofs.seat.finish.Goals as goal

pub returns-clause-free : goal.returns-clause-free
returns-clause-free g c =
    free_made (g.D.Desk.plan c.args.desk.now) (g.D.Desk.view c.args.desk.now) (g.D.Desk.view c.finish.new.self) c.args.k
    c.look_over.ensures c.requires.one c.finish.ensures.told
