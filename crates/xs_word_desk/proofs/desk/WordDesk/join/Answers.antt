use Rattle.std.proofs.Common.{◌≡◌, ◌∙◌, ℕ, List, ap, sym, subst}
use Rattle.xs_plan.specs.Record.{PlanRecord}
use Rattle.xs_word_desk.specs.Changes.{with_joined}
use Rattle.xs_word_desk.specs.Plays.{At, Recalls}
use Rattle.xs_word_desk.specs.Desks.{Keeps, LessApart}
use Rattle.xs_word_desk.proofs.PassLemmas.{one_home, keeps_joined, less_apart}
use Rattle.xs_word_desk.proofs.desk.WordDesk.join.Goals as goal

pub join-requires-clause-table : goal.join-requires-clause-table
join-requires-clause-table g c =
    let d = c.args.self.now in
    let o = c.args.other in
    let here : c.shared.result.now.table_id ≡ d.cache.now.table.shared.table_id = cc in
    let there = one_home o.cache.now.table.shared.table_id d.cache.now.table.shared.table_id c.requires.home in
    (d.same ∙ sym here, o.same ∙ there ∙ sym here)

pub invariant_of-self : goal.invariant_of-self
invariant_of-self g c =
    let d = c.args.self.now in
    let o = c.args.other in
    let p = d.cache.now.table.shared.key in
    let joined = ap (λ (m : At). m.0) c.join.ensures.both in
    let told = c.recall.ensures.told in
    let its : Keeps p o.seat.me.0 = subst (λ (q : PlanRecord). Keeps q o.seat.me.0) c.requires.plan o.keeps in
    let recalls : Recalls (with_joined d.seat.me.0 o.seat.me.0) = subst Recalls joined told.1 in
    record {
      same = c.recall.ensures.table ∙ c.join.ensures.table ∙ d.same;
      keeps = subst (Keeps p) (sym (ap (λ (m : At). m.0) told.0 ∙ joined))
          (keeps_joined p d.seat.me.0 o.seat.me.0 c.requires.chief c.requires.other c.requires.settled d.keeps its recalls);
      bare = ap (λ (m : At). m.1) (told.0 ∙ c.join.ensures.both) ∙ d.bare;
    }

pub returns-clause-apart : goal.returns-clause-apart
returns-clause-apart g c =
    let d = c.args.self.now in
    let o = c.args.other in
    let p = d.cache.now.table.shared.key in
    let told = c.recall.ensures.told in
    let recalls : Recalls (with_joined d.seat.me.0 o.seat.me.0) = subst Recalls (ap (λ (m : At). m.0) c.join.ensures.both) told.1 in
    let after = ap (λ (m : At). m.0.apart) (told.0 ∙ c.join.ensures.both) in
    subst (λ (now : List ℕ). LessApart d.seat.me.0.apart now o.seat.me.0.number) (sym after)
    (less_apart p d.seat.me.0 o.seat.me.0 c.requires.chief d.keeps recalls)
