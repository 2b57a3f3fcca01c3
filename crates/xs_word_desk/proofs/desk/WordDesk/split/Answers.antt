use Rattle.std.proofs.Common.{◌∙◌, ℕ, List, ap, sym, subst, subst₂}
use Rattle.xs_word_desk.specs.declared.view.View.{View}
use Rattle.xs_word_desk.specs.Plays.{At}
use Rattle.xs_word_desk.specs.Desks.{desk_view, Keeps, SplitTells, MoreApart}
use Rattle.xs_word_desk.proofs.PassLemmas.{keeps_split, keeps_split_off, split_tells, more_apart}
use Rattle.xs_word_desk.proofs.desk.WordDesk.split.Goals as goal

pub invariant_of-self : goal.invariant_of-self
invariant_of-self g c =
    let d = c.args.self.now in
    let left = c.split-seat.ensures.left in
    record {
      same = c.split-seat.ensures.table.0 ∙ d.same;
      keeps = subst (Keeps d.cache.now.table.shared.key) (sym (ap (λ (m : At). m.0) left))
          (keeps_split d.cache.now.table.shared.key d.seat.me.0 d.keeps);
      bare = ap (λ (m : At). m.1) left ∙ d.bare;
    }

pub invariant_of-result : goal.invariant_of-result
invariant_of-result g c =
    let d = c.args.self.now in
    let new = c.split-seat.ensures.new in
    record {
      same = c.split-seat.ensures.table.1 ∙ d.same;
      keeps = subst (Keeps d.cache.now.table.shared.key) (sym (ap (λ (m : At). m.0) new))
          (keeps_split_off d.cache.now.table.shared.key d.seat.me.0 c.requires d.keeps);
      bare = ap (λ (m : At). m.1) new;
    }

pub returns-clause-told : goal.returns-clause-told
returns-clause-told g c =
    let d = c.args.self.now in
    let p = d.cache.now.table.shared.key in
    let id = d.cache.now.table.shared.table_id in
    subst₂ (λ (u w : View). SplitTells (desk_view id d.seat.me.0) (desk_view id u) (desk_view id w))
    (sym (ap (λ (m : At). m.0) c.split-seat.ensures.new)) (sym (ap (λ (m : At). m.0) c.split-seat.ensures.left))
    (split_tells p id d.seat.me.0 c.requires d.keeps)

pub returns-clause-apart : goal.returns-clause-apart
returns-clause-apart g c =
    let d = c.args.self.now in
    subst₂ (λ (apart : List ℕ) (number : ℕ). MoreApart d.seat.me.0.apart apart number)
    (sym (ap (λ (m : At). m.0.apart) c.split-seat.ensures.left)) (sym (ap (λ (m : At). m.0.number) c.split-seat.ensures.new))
    (more_apart d.cache.now.table.shared.key d.seat.me.0 d.keeps)
