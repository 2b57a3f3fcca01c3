use Rattle.std.proofs.Common.{◌∙◌, ap}
use Rattle.xs_word_desk.specs.Plays.{At}
use Rattle.xs_word_desk.proofs.DeskLemmas.{keeps_claim, claim_tells}
use Rattle.xs_word_desk.proofs.desk.WordDeskDesk.claim.Goals as goal

pub invariant_of-self : goal.invariant_of-self
invariant_of-self g c =
    let d = c.args.self.now in
    let told = c.claim.ensures.told in
    record {
      same = c.claim.ensures.table ∙ d.same;
      keeps = keeps_claim d.cache.now.table.shared.key d.seat.me.0 c.args.k c.claim.result c.claim.new.seat.me.0 c.requires d.keeps told.1
          (ap (λ (m : At). m.0) told.0);
      bare = ap (λ (m : At). m.1) told.0 ∙ d.bare;
    }

pub returns-clause-told : goal.returns-clause-told
returns-clause-told g c =
    let d = c.args.self.now in
    let told = c.claim.ensures.told in
    claim_tells d.cache.now.table.shared.table_id d.seat.me.0 c.args.k c.claim.result c.claim.new.seat.me.0 c.claim_answer.result told.1
    (ap (λ (m : At). m.0) told.0) c.claim_answer.ensures
