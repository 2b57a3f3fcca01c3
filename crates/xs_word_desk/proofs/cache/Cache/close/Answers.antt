use Rattle.std.proofs.Common.{◌∙◌, ℕ, ap}
use Rattle.xs_word_desk.specs.DeskLaw.{solo_is}
use Rattle.xs_word_desk.specs.Slots.{tiles_below}
use Rattle.xs_word_desk.proofs.PassLemmas.{one_home}
use Rattle.xs_word_desk.proofs.ClosingLemmas.{closes}
use Rattle.xs_word_desk.proofs.HeldLaws.{held_counted}
use Rattle.xs_word_desk.proofs.cache.Cache.close.Goals as goal

pub close_with-requires : goal.close_with-requires
close_with-requires g c = one_home c.args.pass.seat.table_id c.args.self.table.shared.table_id c.requires.home

pub returns-clause-tiles : goal.returns-clause-tiles
returns-clause-tiles g c =
    let seat = c.args.pass.seat in
    let end = c.close_with.ensures.values.2 in
    let slots = c.close_with.result.slots in
    c.take_out-tiles.ensures ∙ ap (λ (n : ℕ). tiles_below n slots.items) slots.ok.0
    ∙ closes g.K.Film.pictures c.args.self.table.shared.key end.0 seat.table_id seat.id seat.me.0 slots.items end.1.0.board end.1.1
    (solo_is seat.me.0 c.requires.alone) c.requires.keeps.rests end.3 end.4

pub returns-clause-shown : goal.returns-clause-shown
returns-clause-shown g c =
    let seat = c.args.pass.seat in
    let p = c.args.self.table.shared.key in
    let told = g.K.Film.pictures in
    let end = c.close_with.ensures.values.2 in
    let slots = c.close_with.result.slots in
    let solo = solo_is seat.me.0 c.requires.alone in (
      end.0,
      end.1.0,
      end.1.1,
      c.take_out-tiles.ensures ∙ ap (λ (n : ℕ). tiles_below n slots.items) slots.ok.0
          ∙ closes told p end.0 seat.table_id seat.id seat.me.0 slots.items end.1.0.board end.1.1 solo c.requires.keeps.rests end.3 end.4
          ∙ held_counted told p end.0 seat.table_id seat.id seat.me.0 end.1.0.board end.1.1 solo,
    )
