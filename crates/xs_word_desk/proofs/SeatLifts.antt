-- Splitting a seat off and joining it are no event, and so keep the rule with its history
use Rattle.std.proofs.Common.{◌≡◌, ◌≢◌, ◌≤◌, ◌+◌, ◌*◌, ◌/◌, ℕ, Bool, true, false, ◌&&◌, ◌==◌, Option, None, List, [], ◌∷◌, ◌++◌, length, get_or, set, refl, sym, ap, ap₂, subst, ◌∙◌, inl, inr, arith}
use mathlib.Core.Option.{some}
use lib.ListN.{get_elem?}
use Rattle.atomic_table.specs.Table.{State, Splits, Joins}
use Rattle.xs_pixel.specs.Picture.{Pictures}
use Rattle.xs_plan.specs.Record.{PlanRecord}
use Rattle.xs_plan.specs.Reads.{reads_in}
use Rattle.xs_core.specs.Counts.{one_if}
use Rattle.xs_word_desk.specs.declared.view.View.{View}
use Rattle.xs_word_desk.specs.Sums.{total}
use Rattle.xs_word_desk.specs.Seen.{wins, makes, loses, leaves, serves, turns, is_this, has_number}
use Rattle.xs_word_desk.specs.Rule.{Slot}
use Rattle.xs_word_desk.specs.Changes.{AtRest, with_split, split_off, with_joined, joined_view}
use Rattle.xs_word_desk.specs.Own.{Own}
use Rattle.xs_word_desk.specs.Shown.{number_sum, winner, turner, leaver, phase_shown, read_shown, tile_shown, phase_at, read_at, tile_at, shown, after_split, after_join}
use Rattle.xs_word_desk.specs.Traced.{Traced}
use Rattle.xs_word_desk.proofs.SumLemmas.{set_else, at_set, at_snoc, entries_append}
use Rattle.xs_word_desk.proofs.ViewLemmas.{none_at}
use Rattle.xs_word_desk.proofs.OwnLemmas.{own_split, own_split_off, own_joined, own_gone}
use Rattle.xs_word_desk.proofs.SeatSteps.{sum_split, sum_join, splits, joins}
use Rattle.xs_word_desk.proofs.ShownLemmas.{below-alike, world_is, numbers_append}
use Rattle.xs_word_desk.proofs.Traces.{extended}

-- the sums of which the state shown speaks are the same
record SameShown (was now : List View) : Type 0 where
  winner_is : (k : ℕ) → winner now k ≡ winner was k
  served : (e : ℕ) → total (serves e) now ≡ total (serves e) was
  in_turn : (e : ℕ) → total (turns e) now ≡ total (turns e) was
  turner_is : (e : ℕ) → turner now e ≡ turner was e
  leaving : (k : ℕ) → total (leaves k) now ≡ total (leaves k) was
  leaver_is : (k : ℕ) → leaver now k ≡ leaver was k

shown_summed :
    (p : PlanRecord) (s t : State Slot View) → t.words ≡ s.words → SameShown s.views t.views → shown p t ≡ shown p s
shown_summed p s t words same =
    world_is _ _ _ _ _ _
    (below-alike (length p.entries) (phase_at t.words t.views) (phase_at s.words s.views)
    (λ k less. ap₂ phase_shown (ap (λ (l : List ℕ). get_or l k 0) words) (same.winner_is k)))
    (below-alike (reads_in p) (read_at t.views) (read_at s.views)
    (λ e less. ap₂ (λ a b. read_shown a b (turner t.views e)) (same.served e) (same.in_turn e)
    ∙ ap (read_shown (total (serves e) s.views) (total (turns e) s.views)) (same.turner_is e)))
    (below-alike (length p.entries) (tile_at t.words t.views) (tile_at s.words s.views)
    (λ k less. ap₂ (λ a b. tile_shown a b (get_or t.words k 0 / 16)) (same.leaving k) (same.leaver_is k)
    ∙ ap (λ (l : List ℕ). tile_shown (total (leaves k) s.views) (leaver s.views k) (get_or l k 0 / 16)) words))

none_times : (a n : ℕ) → a ≡ 0 → a * n ≡ 0
none_times a n none = ap (λ m. m * n) none ∙ omega arith

module _ (told : Option Pictures) (p : PlanRecord) where
  split_shown :
      (views : List View) (id : ℕ) (v : View) → get_elem? views id ≡ some v
      → SameShown views (set views id (with_split v) ++ split_off v ∷ [])
  split_shown views id v me = record {
    winner_is = λ k. sum_split told p (λ u. number_sum k u.won) views id v me refl refl;
    served = λ e. sum_split told p (serves e) views id v me refl refl;
    in_turn = λ e. sum_split told p (turns e) views id v me refl refl;
    turner_is = λ e. sum_split told p (λ u. turns e u * u.number) views id v me refl (none_times 0 v.next refl);
    leaving = λ k. sum_split told p (leaves k) views id v me refl refl;
    leaver_is = λ k. sum_split told p (λ u. leaves k u * u.number) views id v me refl (none_times 0 v.next refl);
  }

  pub split_quiet :
      (s : State Slot View) (id : ℕ) (v : View) → get_elem? s.views id ≡ some v
      → shown p (after_split s id v) ≡ shown p s
  split_quiet s id v me =
      shown_summed p s (after_split s id v) refl (split_shown s.views id v me)

  pub splits_traced :
      (id : ℕ) (v : View) → v.live ≡ true → v.number ≡ 0 → Splits (Traced told p) id v (with_split v) (split_off v)
  splits_traced id v live number s traced me =
      extended told p s (after_split s id v) None traced
      (splits told p id v live number s traced.board me)
      (λ j u at. elim (at_snoc (set s.views id (with_split v)) (split_off v) u j at) [
        | inl old ↦ elim (at_set s.views id j (with_split v) u old) [
          | inl here ↦ subst (Own p) here.1 (own_split p v (traced.own id v me))
          | inr there ↦ traced.own j u there.1
        ]
        | inr last ↦ subst (Own p) last.1 (own_split_off p v)
      ])
      (split_quiet s id v me)

  join_shown :
      (views : List View) (id other : ℕ) (v w : View) → get_elem? views id ≡ some v
      → get_elem? (set views id (with_joined v w)) other ≡ some w → AtRest w
      → SameShown views (set (set views id (with_joined v w)) other joined_view)
  join_shown views id other v w me at rests = record {
    winner_is = λ k. sum_join told p (λ u. number_sum k u.won) views id other v w me at (numbers_append k v.won w.won) refl;
    served = λ e. sum_join told p (serves e) views id other v w me at (entries_append e v.served w.served) refl;
    in_turn = λ e. let idle : turns e w ≡ 0 = ap (is_this e) rests.turn in
        sum_join told p (turns e) views id other v w me at (omega (arith, idle)) refl;
    turner_is = λ e. let idle = none_times (turns e w) w.number (ap (is_this e) rests.turn) in
        sum_join told p (λ u. turns e u * u.number) views id other v w me at (omega (arith, idle)) refl;
    leaving = λ k. let idle : leaves k w ≡ 0 = ap (is_this k) rests.leaving in
        sum_join told p (leaves k) views id other v w me at (omega (arith, idle)) refl;
    leaver_is = λ k. let idle = none_times (leaves k w) w.number (ap (is_this k) rests.leaving) in
        sum_join told p (λ u. leaves k u * u.number) views id other v w me at (omega (arith, idle)) refl;
  }

  pub join_quiet :
      (s : State Slot View) (id other : ℕ) (v w : View) → get_elem? s.views id ≡ some v
      → get_elem? (set s.views id (with_joined v w)) other ≡ some w → AtRest w
      → shown p (after_join s id other v w) ≡ shown p s
  join_quiet s id other v w me at rests =
      shown_summed p s (after_join s id other v w) refl (join_shown s.views id other v w me at rests)

  -- the other seat has nothing claimed
  pub joins_traced :
      (id other : ℕ) (v w : View) → v.live ≡ true → v.number ≡ 0 → AtRest w → w.number ≢ 0
      → ((k : ℕ) → wins k w ≤ makes k w + loses k w)
      → Joins (Traced told p) id v other w (with_joined v w) joined_view
  joins_traced id other v w live number rests w_number settled s traced me differ at =
      let both : View = with_joined v w in
      let there : get_elem? s.views other ≡ some w = sym (set_else s.views id other both differ) ∙ at in
      let not_chief : has_number 0 w ≡ 0 = none_number w.live w.number w_number in
      extended told p s (after_join s id other v w) None traced
      (joins told p id other v w live number rests w_number s traced.board me differ at)
      (λ j u was. elim (at_set (set s.views id both) other j joined_view u was) [
        | inl here ↦ subst (Own p) here.1 (own_gone p)
        | inr rest ↦ elim (at_set s.views id j both u rest.1) [
          | inl chief ↦
              subst (Own p) chief.1
              (own_joined p v w not_chief (traced.board.views other w there) settled (traced.own id v me) (traced.own other w there))
          | inr old ↦ traced.own j u old.1
        ]
      ])
      (join_quiet s id other v w me at rests)
    where
      none_number : (live : Bool) (number : ℕ) → number ≢ 0 → one_if (live && (number == 0)) ≡ 0
      none_number true number other_number = none_at number 0 other_number
      none_number false number other_number = refl
