use Rattle.std.proofs.Common.{arith}
use Rattle.xs_word_desk.proofs.SeatLifts.{splits_traced}
use Rattle.xs_word_desk.proofs.seats.split.Goals as goal

pub split_seat-requires : goal.split_seat-requires
split_seat-requires g c = (
  c.requires.table,
  omega (arith, c.requires.some_there, c.requires.words),
  splits_traced g.K.Film.pictures c.args.shared.now.key c.args.seat.now.id c.args.seat.now.me.0 c.requires.rests.live
      c.requires.chief,
)
