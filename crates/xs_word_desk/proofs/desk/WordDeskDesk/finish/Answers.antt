use Rattle.std.proofs.Common.{◌∙◌, ap, sym, subst}
use Rattle.xs_word_desk.specs.Plays.{At}
use Rattle.xs_word_desk.specs.Desks.{Keeps}
use Rattle.xs_word_desk.proofs.DeskLemmas.{keeps_made}
use Rattle.xs_word_desk.proofs.desk.WordDeskDesk.finish.Goals as goal

pub invariant_of-self : goal.invariant_of-self
invariant_of-self g c =
    let d = c.args.self.now in
    let told = c.finish.ensures.told in
    record {
      same = c.finish.ensures.table ∙ d.same;
      keeps = subst (Keeps d.cache.now.table.shared.key) (sym (ap (λ (m : At). m.0) told))
          (keeps_made d.cache.now.table.shared.key d.seat.me.0 c.args.k c.requires.claimed d.keeps);
      bare = ap (λ (m : At). m.1) told;
    }
