use Rattle.std.proofs.Common.{arith}
use Rattle.xs_word_desk.proofs.SeatLifts.{joins_traced}
use Rattle.xs_word_desk.proofs.seats.join.Goals as goal

pub join_seat-requires : goal.join_seat-requires
join_seat-requires g c = (
  c.requires.table.0,
  c.requires.table.1,
  c.requires.empty,
  omega (arith, c.requires.some_there, c.requires.words),
  joins_traced g.K.Film.pictures c.args.shared.now.key c.args.seat.now.id c.args.other.id c.args.seat.now.me.0 c.args.other.me.0
      c.requires.rests.0.live c.requires.chief c.requires.rests.1 c.requires.other c.requires.settled,
)
