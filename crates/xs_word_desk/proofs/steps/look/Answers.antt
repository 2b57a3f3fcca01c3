use Rattle.std.proofs.Common.{arith}
use Rattle.xs_word_desk.proofs.Lifts.{looks_traced}
use Rattle.xs_word_desk.proofs.steps.look.Goals as goal

pub load-requires : goal.load-requires
load-requires g c = (
  c.requires.table,
  omega (arith, c.requires.there, c.requires.words),
  looks_traced g.K.Film.pictures c.args.shared.now.key c.args.shared.now.table_id.slots c.args.seat.now.id c.args.k
      c.args.seat.now.me c.requires.there c.requires.rests.live,
)
