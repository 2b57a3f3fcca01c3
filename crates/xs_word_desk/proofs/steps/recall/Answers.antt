use Rattle.std.proofs.Common.{arith}
use Rattle.xs_word_desk.proofs.RecallSteps.{recalls_traced}
use Rattle.xs_word_desk.proofs.steps.recall.Goals as goal

pub load-requires : goal.load-requires
load-requires g c = (
  c.requires.table,
  omega (arith, c.requires.some_there, c.requires.words),
  recalls_traced g.K.Film.pictures c.args.shared.now.key c.args.shared.now.table_id.slots c.args.seat.now.id 0 c.args.seat.now.me
      c.requires.some_there,
)
