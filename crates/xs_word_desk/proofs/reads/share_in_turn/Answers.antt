use Rattle.std.proofs.Common.{ℕ, ◌∷◌, ◌∙◌, [], Some, List, ap, sym, subst, arith, bit_and}
use mathlib.Core.Option.{none}
use Rattle.atomic_table.specs.Table.{Allows, step, rest}
use Rattle.xs_raster.specs.declared.tile.Tile.{Tile}
use Rattle.xs_core.specs.Calls.{HoldsTile}
use Rattle.xs_word_desk.specs.Plays.{At, gave}
use Rattle.xs_word_desk.specs.Rule.{Slot}
use Rattle.xs_word_desk.specs.Traced.{Traced}
use Rattle.xs_word_desk.proofs.Lifts.{gives_traced}
use Rattle.xs_word_desk.proofs.WordLemmas.{all_but_turn}
use Rattle.xs_word_desk.proofs.SlotLemmas.{same_tile, with_rest}
use Rattle.xs_word_desk.proofs.reads.share_in_turn.Goals as goal

pub exchange-tile-requires : goal.exchange-tile-requires
exchange-tile-requires g c =
    let out = with_rest c.args.seat.now.me.1 c.args.k (Some c.requires.out.0) c.requires.out.1 in
    (c.requires.table, (Some c.requires.out.0, out))

pub fetch_and-requires : goal.fetch_and-requires
fetch_and-requires g c =
    let tile : Tile = c.in-Some.tile in
    let before = c.exchange-tile.ensures in
    let is = same_tile c.args.seat.now.me.1 (rest c.args.seat.now.me.1) [] c.args.k c.exchange-tile.result tile c.requires.out.0
    before.2 c.in-Some.is c.requires.out.1 in
    let seat = c.exchange.ensures.3 ∙ ap (λ (m : At). (m.0, (c.args.k, Some tile) ∷ rest m.1)) before.3
    ∙ ap (λ (l : List (ℕ × Slot)). (c.args.seat.now.me.0, (c.args.k, Some tile) ∷ l)) (ap rest c.requires.out.1) in (
      c.exchange.ensures.0 ∙ before.0 ∙ c.requires.table,
      omega (arith, c.requires.there, c.requires.words),
      subst
          (λ (m : At). Allows (Traced g.K.Film.pictures c.args.shared.now.key) c.args.shared.now.table_id.slots c.exchange.new.seat.id m
          c.args.k (λ word. bit_and word all_but_turn)
          (gave (step c.args.shared.now.table_id.slots c.args.k all_but_turn 0 none) m))
          (sym seat)
          (gives_traced g.K.Film.pictures c.args.shared.now.key c.args.shared.now.table_id.slots c.exchange.new.seat.id c.args.k
          c.args.seat.now.me.0 [] c.requires.there c.requires.turn.0 tile c.requires.turn.1 c.requires.turn.2
          (subst (HoldsTile g.K.Film.pictures c.args.shared.now.key c.args.k) (sym is) c.requires.out.2)),
    )
