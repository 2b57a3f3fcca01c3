use Rattle.std.proofs.Common.{◌∙◌, ap, sym, subst}
use Rattle.xs_word_desk.specs.Plays.{At}
use Rattle.xs_word_desk.specs.Desks.{Keeps}
use Rattle.xs_word_desk.proofs.DeskLemmas.{keeps_lost}
use Rattle.xs_word_desk.proofs.desk.WordDeskDesk.abandon.Goals as goal

pub invariant_of-self : goal.invariant_of-self
invariant_of-self g c =
    let d = c.args.self.now in
    let told = c.abandon.ensures.told in
    record {
      same = c.abandon.ensures.table ∙ d.same;
      keeps = subst (Keeps d.cache.now.table.shared.key) (sym (ap (λ (m : At). m.0) told))
          (keeps_lost d.cache.now.table.shared.key d.seat.me.0 c.args.k c.requires.claimed d.keeps);
      bare = ap (λ (m : At). m.1) told ∙ d.bare;
    }
