use Rattle.std.proofs.Common.{◌≡◌, ◌∙◌, ap, sym, subst}
use Rattle.xs_plan.specs.Record.{PlanRecord}
use Rattle.xs_word_desk.specs.Plays.{At, MayServe}
use Rattle.xs_word_desk.specs.Desks.{Keeps}
use Rattle.xs_word_desk.proofs.DeskLemmas.{may_serve, keeps_served}
use Rattle.xs_word_desk.proofs.desk.WordDeskDesk.retire.Goals as goal

pub retire-requires-clause-may : goal.retire-requires-clause-may
retire-requires-clause-may g c =
    let d = c.args.self.now in
    let same : c.shared.result.now.key ≡ d.cache.now.table.shared.key = cc in
    subst (λ (q : PlanRecord). MayServe q d.seat.me.0 c.args.e c.source-source.result) (sym same)
    (may_serve d.cache.now.table.shared.key d.cache.now.table.shared.table_id d.seat.me.0 c.args.e c.source-source.result d.keeps
    (sym c.source-source.ensures.source) c.requires)

pub invariant_of-self : goal.invariant_of-self
invariant_of-self g c =
    let d = c.args.self.now in
    let told = c.retire.ensures.told in
    record {
      same = c.retire.ensures.table ∙ d.same;
      keeps = subst (Keeps d.cache.now.table.shared.key) (sym (ap (λ (m : At). m.0) told))
          (keeps_served d.cache.now.table.shared.key d.cache.now.table.shared.table_id d.seat.me.0 c.args.e c.source-source.result
          c.retire.result d.keeps (sym c.source-source.ensures.source) c.requires);
      bare = ap (λ (m : At). m.1) told;
    }
