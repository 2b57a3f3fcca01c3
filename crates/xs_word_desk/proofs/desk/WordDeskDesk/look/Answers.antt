use Rattle.std.proofs.Common.{◌∙◌, ap}
use Rattle.xs_word_desk.specs.Plays.{At}
use Rattle.xs_word_desk.proofs.DeskLemmas.{keeps_look, look_tells}
use Rattle.xs_word_desk.proofs.desk.WordDeskDesk.look.Goals as goal

pub invariant_of-self : goal.invariant_of-self
invariant_of-self g c =
    let d = c.args.self.now in
    let told = c.look.ensures.told in
    record {
      same = c.look.ensures.table ∙ d.same;
      keeps = keeps_look d.cache.now.table.shared.key d.seat.me.0 c.args.k c.look.result c.look.new.seat.me.0 c.requires d.keeps told.1
          (ap (λ (m : At). m.0) told.0);
      bare = ap (λ (m : At). m.1) told.0 ∙ d.bare;
    }

pub returns-clause-told : goal.returns-clause-told
returns-clause-told g c =
    let d = c.args.self.now in
    let told = c.look.ensures.told in
    look_tells d.cache.now.table.shared.table_id d.seat.me.0 c.args.k c.look.result c.look.new.seat.me.0 c.look_answer.result told.1
    (ap (λ (m : At). m.0) told.0) c.look_answer.ensures
