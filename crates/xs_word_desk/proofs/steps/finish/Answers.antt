use Rattle.std.proofs.Common.{◌∷◌, ◌∙◌, ℕ, false, Some, ap, sym, subst, refl, arith}
use mathlib.Core.Option.{none}
use Rattle.atomic_table.specs.Table.{Allows, step, rest}
use Rattle.xs_word_desk.specs.Changes.{with_filling}
use Rattle.xs_word_desk.specs.Plays.{At, finished}
use Rattle.xs_word_desk.specs.Traced.{Traced}
use Rattle.xs_word_desk.specs.Words.{Finished, encode}
use Rattle.xs_word_desk.proofs.Lifts.{takes_out_traced, finishes_traced}
use Rattle.xs_word_desk.proofs.steps.finish.Goals as goal

pub load-requires : goal.load-requires
load-requires g c = (
  c.requires.table,
  omega (arith, c.requires.there, c.requires.words),
  takes_out_traced g.K.Film.pictures c.args.shared.now.key c.args.shared.now.table_id.slots c.args.seat.now.id c.args.k
      c.args.seat.now.me c.requires.there c.requires.rests.live c.requires.rests.filling c.requires.claimed,
)

pub swap-requires : goal.swap-requires
swap-requires g c =
    let seat = c.exchange.ensures.3 ∙ ap (λ (m : At). (m.0, (c.args.k, Some c.args.tile) ∷ rest m.1)) c.load.ensures.2 in (
      c.exchange.ensures.0 ∙ c.load.ensures.0 ∙ c.requires.table,
      omega (arith, c.requires.there, c.requires.words),
      subst
          (λ (m : At). Allows (Traced g.K.Film.pictures c.args.shared.now.key) c.args.shared.now.table_id.slots c.exchange.new.seat.id m
          c.args.k (λ found. c.finished.result) (finished (step c.args.shared.now.table_id.slots c.args.k c.finished.result 0 none) m))
          (sym seat)
          (finishes_traced g.K.Film.pictures c.args.shared.now.key c.args.shared.now.table_id.slots c.exchange.new.seat.id c.args.k
          (with_filling c.args.seat.now.me.0 c.args.k) c.args.seat.now.me.1 c.requires.there c.finished.result c.args.tile
          c.requires.rests.live refl c.requires.value
          (c.finished.ensures ∙ ap (λ (n : ℕ). encode (Finished false false n)) c.requires.readers)),
    )
