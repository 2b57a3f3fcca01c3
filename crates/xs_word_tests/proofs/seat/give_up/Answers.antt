use Rattle.xs_word_tests.proofs.HandLemmas.{free_lost}
use Rattle.xs_word_tests.proofs.seat.give_up.Goals as goal

pub returns-clause-free : goal.returns-clause-free
returns-clause-free g c =
    free_lost (g.D.Desk.plan c.args.desk.now) (g.D.Desk.view c.args.desk.now) (g.D.Desk.view c.abandon.new.self) c.args.k
    c.look_over.ensures c.requires.one c.abandon.ensures.told
