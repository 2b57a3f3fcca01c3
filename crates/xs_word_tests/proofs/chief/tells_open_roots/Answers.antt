use Rattle.xs_word_tests.proofs.HandLemmas.{roots_open}
use Rattle.xs_word_tests.proofs.chief.tells_open_roots.Goals as goal

pub returns : goal.returns
returns g c = roots_open (g.D.Desk.plan c.args.desk.now) (g.D.Desk.view c.args.desk.now) c.look_over.ensures c.requires
