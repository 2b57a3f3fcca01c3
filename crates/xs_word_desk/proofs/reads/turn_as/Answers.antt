use Rattle.std.proofs.Common.{ℕ, subst₂, arith, bit_or}
use mathlib.Core.Option.{none}
use Rattle.atomic_table.specs.Table.{Allows, step}
use Rattle.xs_plan.specs.Record.{PlanRecord}
use Rattle.xs_word_desk.specs.Plays.{turned}
use Rattle.xs_word_desk.specs.Traced.{Traced}
use Rattle.xs_word_desk.proofs.Lifts.{turns_traced}
use Rattle.xs_word_desk.proofs.reads.turn_as.Goals as goal

pub fetch_or-requires : goal.fetch_or-requires
fetch_or-requires g c = (
  c.requires.table,
  omega (arith, c.requires.there, c.requires.words),
  subst₂
      (λ (e : ℕ) (p : PlanRecord). Allows (Traced g.K.Film.pictures c.args.shared.now.key) c.args.shared.now.table_id.slots
      c.args.seat.now.id c.args.seat.now.me c.args.k (λ word. bit_or word 4)
      (turned g.K.Film.pictures p e (step c.args.shared.now.table_id.slots c.args.k 4 0 none) c.args.seat.now.me))
      c.requires.named.0 c.requires.named.1
      (turns_traced g.K.Film.pictures c.args.shared.now.key c.args.shared.now.table_id.slots c.args.seat.now.id c.args.k
      c.args.seat.now.me c.requires.there c.args.e c.requires.rests.live c.requires.rests.turn c.requires.may),
)
