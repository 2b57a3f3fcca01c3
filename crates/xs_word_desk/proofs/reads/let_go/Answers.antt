use Rattle.std.proofs.Common.{ℕ, ◌∷◌, ◌∙◌, [], None, Some, List, ap, sym, subst, arith, bit_or}
use mathlib.Core.Option.{none}
use Rattle.atomic_table.specs.Table.{Allows, step, rest}
use Rattle.xs_word_desk.specs.Plays.{At, cleared}
use Rattle.xs_word_desk.specs.Rule.{Slot}
use Rattle.xs_word_desk.specs.Traced.{Traced}
use Rattle.xs_word_desk.proofs.Lifts.{clears_traced}
use Rattle.xs_word_desk.proofs.SlotLemmas.{with_rest}
use Rattle.xs_word_desk.proofs.reads.let_go.Goals as goal

pub exchange-requires : goal.exchange-requires
exchange-requires g c =
    let out = with_rest c.args.seat.now.me.1 c.args.k (Some c.requires.out.0) c.requires.out.1 in
    (c.requires.table, (Some c.requires.out.0, out))

pub fetch_or-requires : goal.fetch_or-requires
fetch_or-requires g c =
    let seat = c.exchange.ensures.3
    ∙ ap (λ (l : List (ℕ × Slot)). (c.args.seat.now.me.0, (c.args.k, None) ∷ l)) (ap rest c.requires.out.1) in (
      c.exchange.ensures.0 ∙ c.requires.table,
      omega (arith, c.requires.there, c.requires.words),
      subst
          (λ (m : At). Allows (Traced g.K.Film.pictures c.args.shared.now.key) c.args.shared.now.table_id.slots c.exchange.new.seat.id m
          c.args.k (λ word. bit_or word 8) (cleared (step c.args.shared.now.table_id.slots c.args.k 8 0 none) m))
          (sym seat)
          (clears_traced g.K.Film.pictures c.args.shared.now.key c.args.shared.now.table_id.slots c.exchange.new.seat.id c.args.k
          c.args.seat.now.me.0 [] c.requires.there c.requires.leaving),
    )
