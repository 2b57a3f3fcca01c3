-- What a closed cache tells of a whole render.
use Rattle.std.proofs.Common.{◌≡◌, ℕ, zero, suc, ◌+◌, ◌<◌, ◌==◌, ◌&&◌, nat_lt, cond, Bool, true, false, List, [], ◌∷◌, map, length, refl, sym, ap, ◌∙◌, arith}
use Rattle.std.proofs.lemmas.Bool.Decides.{nat_tests}
use Rattle.std.proofs.lemmas.List.Sums.{sum_by-cons}
use Rattle.xs_core.proofs.CountLemmas.{how_many-none}
use Rattle.xs_core.specs.Views.{DeskView, DeskOk, Signed, entries, held_count, is_held, lacking, times}
use Rattle.xs_plan.specs.Record.{PlanRecord}
use Rattle.xs_render.specs.Progress.{IsOver}
use Rattle.xs_word_desk.specs.declared.closing.Closed.{Closed}
use Rattle.xs_word_desk.specs.Closing.{closed_plan, closed_made, closed_served, closed_tiles}
use Rattle.xs_top.specs.Once.{IsClosedOf}

-- an item is among those that are entered as often as it is entered
entered_times : (k : ℕ) (list : List Signed) → times k (map (λ (s : Signed). s.item) list) ≡ entries k list
entered_times k [] = refl
entered_times k (s ∷ list) =
    sum_by-cons (λ (n : ℕ). cond (n == k) 1 0) s.item (map (λ (x : Signed). x.item) list)
    ∙ (ap (λ n. cond (s.item == k) 1 0 + n) (entered_times k list) ∙ sym (sum_by-cons (λ (x : Signed). cond (x.item == k) 1 0) s list))

none : (n : ℕ) → (0 < n → ⊥) → n ≡ 0
none zero never = refl
none (suc n) never = absurd (never (omega arith))

not_both : (a b : ℕ) → ((0 < a) × (0 < b) → ⊥) → (x y : Bool) → nat_lt 0 a ≡ x → nat_lt 0 b ≡ y → (nat_lt 0 a && nat_lt 0 b) ≡ false
not_both a b never false y is other = rw is refl
not_both a b never true false is other = rw (is, other) refl
not_both a b never true true is other = absurd (never (grind (arith, nat_tests), grind (arith, nat_tests)))

-- where all is rendered at the seat with which a cache is closed, its closing record tells so
pub closed_whole : (p : PlanRecord) (c : Closed) (v : DeskView) → closed_plan c ≡ p → closed_made c ≡ map (λ (s : Signed). s.item) v.made
    → closed_served c ≡ map (λ (s : Signed). s.item) v.served → closed_tiles c ≡ held_count p v → IsOver p v → DeskOk p v → IsClosedOf p c
closed_whole p c v plan made served tiles over ok = record {
  plan = plan;
  made = record {
    each = λ k within. rw made (entered_times k v.made ∙ over.made k within);
    others = λ k past. rw made (entered_times k v.made ∙ over.others k past);
  };
  served = λ e within. rw served (entered_times e v.served ∙ over.served e within);
  others = λ e past. rw served (entered_times e v.served ∙ none (entries e v.served) (λ some. let within = ok.served_within e some in omega arith));
  empty = tiles ∙ how_many-none (length p.entries) (is_held p v) (λ k within. not_both (entries k v.made) (lacking p v.served k) (over.held k) _ _ refl refl);
}
