-- Each kind of step is the event that is named for it, or none
use Rattle.std.proofs.Common.{◌≡◌, ◌≢◌, ◌<◌, ◌≤◌, ◌+◌, ◌-◌, ◌*◌, ◌/◌, ◌%◌, ◌^◌, ℕ, zero, suc, Bool, true, false, ◌==◌, cond, Option, Some, None, List, length, get_or, set, refl, sym, ap, ap₂, subst, ◌∙◌, arith, eq-eqb, ne_eqb, bit_and, bit_or}
use Rattle.std.proofs.lemmas.Bool.{cond-true, cond-false}
use mathlib.Core.Option.{some}
use mathlib.Core.Option as slot
use lib.ListN.{get_elem?}
use Rattle.atomic_table.specs.Table.{State}
use Rattle.xs_pixel.specs.Picture.{Pictures}
use Rattle.xs_plan.specs.Record.{PlanRecord}
use Rattle.xs_plan.specs.Reads.{reads_in, readers_of}
use Rattle.xs_core.specs.declared.event.Event.TheVariants.{Claim, Finish, Abandon, Turn, Give, Retire, Clear}
use Rattle.xs_core.specs.declared.state.Phase.TheVariants.{Claimed, Ready, Lost}
use Rattle.xs_core.specs.declared.state.ReadState.{ReadState}
use Rattle.xs_core.specs.declared.state.ReadState.TheVariants.{Waiting, InTurn, Served}
use Rattle.xs_core.specs.declared.state.TileState.TheVariants.{Absent, Held, Leaving}
use Rattle.xs_core.specs.Counts.{one_if}
use Rattle.xs_core.specs.States.{World, phase_of, read_of, with_read, with_tile, is_ready, source_at, reader_at, seat_of, left, turns}
use Rattle.xs_core.specs.Events.{left_by}
use Rattle.xs_core.specs.Kept.{world}
use Rattle.xs_core.specs.Views.{Met, under}
use Rattle.xs_word_desk.specs.declared.view.View.{View}
use Rattle.xs_word_desk.specs.Sums.{total}
use Rattle.xs_word_desk.specs.Words.{Shape, Unclaimed, Taken, GivenUp, Finished, encode, won_in, leaving_in, leaving_of, turn_in}
use Rattle.xs_word_desk.specs.Seen.{wins, makes, loses, fills, leaves, serves, turns as turns_of, turns_on, is_this, is_read_of, owner, has_number, open_reads}
use Rattle.xs_word_desk.specs.Rule.{Slot, Agrees, Holds}
use Rattle.xs_word_desk.specs.Changes.{with_won, with_met, with_made, with_lost, with_turn, with_served, with_cleared}
use Rattle.xs_word_desk.specs.Plays.{MayServe}
use Rattle.xs_word_desk.specs.Shown.{number_sum, winner, turner, leaver, phase_shown, read_shown, tile_shown, read_at, tile_at, shown, after_step, Shows}
use Rattle.xs_word_desk.proofs.WordLemmas.{unclaimed_of, reads_of_word, turn_of_word, turn_set, turn_given, cleared_set, read_less, all_but_turn}
use Rattle.xs_word_desk.proofs.SumLemmas.{total-set, total-zero, total-single, term_le, terms_le, total_le, total-plus, entries_push}
use Rattle.xs_word_desk.proofs.ViewLemmas.{one_at, none_at}
use Rattle.xs_word_desk.proofs.OwnLemmas.{under_le}
use Rattle.xs_word_desk.proofs.FrameLemmas.{total-stays}
use Rattle.xs_word_desk.proofs.ClaimSteps.{won_in-most, is_taken, is_filled}
use Rattle.xs_word_desk.proofs.ReadSteps.{owner_total, unserved, is_open, open_less, turn_in-most, leaving_in-most}
use Rattle.xs_word_desk.proofs.ShownLemmas.{world_is, numbers_push, numbers_other, numbers_none, numbers_one, finished_phase, held_tile, phases_become, phases_stay, tiles_become, tiles_stay, reads_become, reads_stay, phase_is, read_is, tile_is, left_shown, none_in_turn, winner-stays}

-- a read that is shown, by its parts
read_value : (a b c d e f : ℕ) → a ≡ d → b ≡ e → c ≡ f → read_shown a b c ≡ read_shown d e f
read_value a b c d e f served in_turn seat =
    ap (λ x. read_shown x b c) served ∙ ap (λ x. read_shown d x c) in_turn ∙ ap (read_shown d e) seat

finished_more : (word reads : ℕ) (turn cleared : Bool) → word ≡ encode (Finished turn cleared reads) → 3 ≤ word
finished_more word reads turn cleared is = omega (arith, is)

module _ (told : Option Pictures) (p : PlanRecord) where
  -- what a seat won under its own number is its own
  pub own_winner :
      (s : State Slot View) (id k : ℕ) (v : View) → Holds told p s → get_elem? s.views id ≡ some v
      → 0 < under v.number k v.won → winner s.views k ≡ v.number
  own_winner s id k v holds me own =
      let mine = under_le v.number k v.won in
      let there = (holds.views id v me).within k (omega (arith, own, mine)) in
      let part = holds.parts k there in
      let most = won_in-most told p part.shape in
      total-single (λ u. number_sum k u.won) s.views id v me (λ j u differ at.
      numbers_none k u.won (omega (arith, terms_le (wins k) s.views id j v u differ me at, own, mine, part.agrees.won, most)))
      ∙ numbers_one v.number k v.won (omega (arith, term_le (wins k) s.views id v me, part.agrees.won, most)) own

  -- a read that a seat has in turn nobody else has, and nobody has served
  pub turn_mine :
      (s : State Slot View) (id e : ℕ) (v : View) → Holds told p s → get_elem? s.views id ≡ some v → v.turn ≡ Some e
      → (total (serves e) s.views ≡ 0) × (total (turns_of e) s.views ≡ 1) × (turner s.views e ≡ v.number)
  turn_mine s id e v holds me has =
      let one : turns_of e v ≡ 1 = ap (is_this e) has ∙ one_at e e refl in
      let own : View → ℕ = λ u. owner (reader_at p e) (has_number 0 u) u.won in
      let all = total_le (λ u. serves e u + turns_of e u) own s.views (λ j u at. (holds.views j u at).owned e) in
      let sums = total-plus (serves e) (turns_of e) s.views in
      let most = owner_total told p s (reader_at p e) holds in
      let part = term_le (turns_of e) s.views id v me in (
        omega (arith, all, sums, most, part, one),
        omega (arith, all, sums, most, part, one),
        total-single (λ u. turns_of e u * u.number) s.views id v me (λ j u differ at.
            let idle : turns_of e u ≡ 0 =
            omega (arith, terms_le (turns_of e) s.views id j v u differ me at, all, sums, most, one) in
            ap (λ n. n * u.number) idle ∙ omega arith)
            ∙ ap (λ n. n * v.number) one ∙ omega arith,
      )

  -- nor is the tile that is leaving by a seat leaving by another
  pub leaving_mine :
      (s : State Slot View) (id k : ℕ) (v : View) → Holds told p s → get_elem? s.views id ≡ some v → k < length p.entries
      → v.leaving ≡ Some k → (total (leaves k) s.views ≡ 1) × (leaver s.views k ≡ v.number)
  leaving_mine s id k v holds me there has =
      let part = holds.parts k there in
      let one : leaves k v ≡ 1 = ap (is_this k) has ∙ one_at k k refl in
      let most = leaving_in-most told p part.shape in
      let mine = term_le (leaves k) s.views id v me in (
        omega (arith, part.agrees.leaving, mine, most, one),
        total-single (λ u. leaves k u * u.number) s.views id v me (λ j u differ at.
            let idle : leaves k u ≡ 0 =
            omega (arith, terms_le (leaves k) s.views id j v u differ me at, part.agrees.leaving, most, one) in
            ap (λ n. n * u.number) idle ∙ omega arith)
            ∙ ap (λ n. n * v.number) one ∙ omega arith,
      )

-- the seat after it served a read of an alias: what it met tells nothing of the state
abbrev pub retired_view : View → (e k : ℕ) → Option ℕ → Met → View
retired_view v e k leaving met = with_met (with_served v e leaving) k met

module _
    (told : Option Pictures) (p : PlanRecord) (s : State Slot View) (id k : ℕ) (v : View) (homes : List (slot.Option Slot))
    (holds : Holds told p s) (me : get_elem? s.views id ≡ some v) (there : k < length p.entries) where
  -- ---- claim

  pub claim_law : get_or s.words k 0 ≡ 0 → Shows p s (after_step s k 1 id (with_won v k) homes) (Claim v.number k)
  claim_law idle =
      let w : View = with_won v k in
      let was = (holds.parts k there).agrees in
      let shape = unclaimed_of (holds.parts k there).shape (sym was.says ∙ idle) in
      let unwon : total (wins k) s.views ≡ 0 = was.won ∙ ap won_in shape in
      let none : total (λ u. number_sum k u.won) s.views ≡ 0 = total-zero (λ u. number_sum k u.won) s.views (λ j u at.
      numbers_none k u.won (omega (arith, term_le (wins k) s.views j u at, unwon))) in
      let mine : number_sum k v.won ≡ 0 = numbers_none k v.won (omega (arith, term_le (wins k) s.views id v me, unwon)) in
      let entry : cond (k == k) v.number 0 ≡ v.number = ap (λ b. cond b v.number 0) (eq-eqb k k refl) in
      let now : winner (set s.views id w) k ≡ v.number = omega (
        arith,
        total-set (λ u. number_sum k u.won) s.views id v w me,
        none,
        mine,
        numbers_push k v.number k v.won,
        entry,
      ) in record {
        there = there;
        allowed = phase_is p s k there ∙ ap (λ n. phase_shown n (winner s.views k)) idle;
        happened = world_is _ _ _ _ _ _
            (phases_become p s id k 1 v w me (Claimed v.number) there holds.wide
            (λ j differ. numbers_other j v.number k v.won (λ is. differ (sym is))) (ap Claimed now))
            (reads_stay p s id k 1 v w me refl (λ e. (refl, refl)))
            (tiles_stay p s id k 1 v w me there holds.wide refl (λ j. refl)
            (ap (λ n. tile_shown (total (leaves k) s.views) (leaver s.views k) (n / 16)) (sym idle)));
      }

  -- ---- finish

  pub finish_law :
      (word : ℕ) → v.filling ≡ Some k → 0 < under v.number k v.won
      → word ≡ encode (Finished false false (readers_of p k))
      → Shows p s (after_step s k word id (with_made v k) homes) (Finish v.number k)
  finish_law word fills_k own word_is =
      let w : View = with_made v k in
      let part = holds.parts k there in
      let one : fills k v ≡ 1 = ap (is_this k) fills_k ∙ one_at k k refl in
      let filled = is_filled told p s id k v part.shape holds me one part.agrees in
      let was = subst (Agrees told p k (get_or s.words k 0) (get_elem? s.homes k) s.views) filled.0 part.agrees in
      let seat = own_winner told p s id k v holds me own in
      let count : word / 16 ≡ readers_of p k = ap (λ n. n / 16) word_is ∙ reads_of_word false false (readers_of p k) in
      let none_leaving : total (leaves k) (set s.views id w) ≡ 0 = total-stays (leaves k) s.views id v w me refl ∙ was.leaving in record {
        there = there;
        allowed = phase_is p s k there ∙ ap₂ phase_shown was.says seat;
        happened = world_is _ _ _ _ _ _
            (phases_become p s id k word v w me (Ready v.number) there holds.wide (λ j differ. refl)
            (finished_phase word (winner (set s.views id w) k) (omega (arith, word_is))
            ∙ ap Ready (winner-stays p s id k word v w me k refl ∙ seat)))
            (reads_stay p s id k word v w me refl (λ e. (refl, refl)))
            (tiles_become p s id k word v w me Held there holds.wide refl (λ j differ. refl)
            (ap (λ n. tile_shown n (leaver (set s.views id w) k) (word / 16)) none_leaving
            ∙ held_tile (leaver (set s.views id w) k) (word / 16) (omega (arith, count, holds.plan.read k there))));
      }

  -- ---- abandon

  pub abandon_law :
      v.filling ≡ None → makes k v + loses k v < wins k v → 0 < under v.number k v.won
      → Shows p s (after_step s k 2 id (with_lost v k) homes) (Abandon v.number k)
  abandon_law rests claimed own =
      let w : View = with_lost v k in
      let part = holds.parts k there in
      let none_filled : fills k v ≡ 0 = ap (is_this k) rests in
      let taken = is_taken told p s id k v part.shape holds me (omega (arith, claimed, none_filled)) part.agrees in
      let is : get_or s.words k 0 ≡ 1 = part.agrees.says ∙ ap encode taken.0 in record {
        there = there;
        allowed = phase_is p s k there ∙ ap₂ phase_shown is (own_winner told p s id k v holds me own);
        happened = world_is _ _ _ _ _ _
            (phases_become p s id k 2 v w me Lost there holds.wide (λ j differ. refl) refl)
            (reads_stay p s id k 2 v w me refl (λ e. (refl, refl)))
            (tiles_stay p s id k 2 v w me there holds.wide refl (λ j. refl)
            (ap (λ n. tile_shown (total (leaves k) s.views) (leaver s.views k) (n / 16)) (sym is)));
      }

  -- ---- a word that stays finished, with as many open reads

  still_finished :
      (was now reads : ℕ) (t c u d : Bool) → was ≡ encode (Finished t c reads) → now ≡ encode (Finished u d reads)
      → (seat : ℕ) → phase_shown now seat ≡ phase_shown was seat
  still_finished was now reads t c u d is becomes seat =
      finished_phase now seat (finished_more now reads u d becomes)
      ∙ sym (finished_phase was seat (finished_more was reads t c is))

  same_count :
      (was now reads : ℕ) (t c u d : Bool) → was ≡ encode (Finished t c reads) → now ≡ encode (Finished u d reads)
      → now / 16 ≡ was / 16
  same_count was now reads t c u d is becomes =
      ap (λ n. n / 16) becomes ∙ reads_of_word u d reads ∙ sym (reads_of_word t c reads) ∙ sym (ap (λ n. n / 16) is)

  -- ---- turn

  -- a read that waits, of an alias that is finished
  waiting :
      (e : ℕ) → e < reads_in p → total (serves e) s.views + total (turns_of e) s.views ≡ 0
      → read_of (shown p s) e ≡ Waiting
  waiting e within none =
      read_is p s e within
      ∙ read_value (total (serves e) s.views) (total (turns_of e) s.views) (turner s.views e) 0 0 (turner s.views e)
      (omega (arith, none)) (omega (arith, none)) refl

  ready :
      (e reads : ℕ) (turn cleared : Bool) → source_at p e ≡ k
      → get_or s.words k 0 ≡ encode (Finished turn cleared reads)
      → is_ready (phase_of (shown p s) (source_at p e)) ≡ true
  ready e reads turn cleared source is =
      ap (λ j. is_ready (phase_of (shown p s) j)) source
      ∙ ap is_ready (phase_is p s k there
      ∙ finished_phase (get_or s.words k 0) (winner s.views k) (finished_more (get_or s.words k 0) reads turn cleared is))

  turn_at :
      (e reads : ℕ) (turn cleared : Bool) → v.turn ≡ None → MayServe p v e k
      → seat_of p (shown p s) e ≡ Some v.number → one_if turn ≡ 0
      → Agrees told p k (get_or s.words k 0) (get_elem? s.homes k) s.views (Finished turn cleared reads)
      → Shows p s (after_step s k (bit_or (get_or s.words k 0) 4) id (with_turn v (Some e)) homes) (Turn v.number e)
  turn_at e reads turn cleared rests may belongs clear was =
      let w : View = with_turn v (Some e) in
      let word : ℕ = get_or s.words k 0 in
      let now : ℕ = bit_or word 4 in
      let becomes : now ≡ encode (Finished true cleared reads) = ap (λ x. bit_or x 4) was.says ∙ turn_set turn cleared reads in
      let none = unserved told p s id e k v holds me may rests in
      let none_before : turns_of e v ≡ 0 = ap (is_this e) rests in
      let one_now : turns_of e w ≡ 1 = one_at e e refl in
      let in_turn : total (turns_of e) (set s.views id w) ≡ 1 =
      omega (arith, total-set (turns_of e) s.views id v w me, none, none_before, one_now) in
      let no_number : total (λ u. turns_of e u * u.number) s.views ≡ 0 =
      total-zero (λ u. turns_of e u * u.number) s.views (λ j u at.
      let idle : turns_of e u ≡ 0 = omega (arith, term_le (turns_of e) s.views j u at, none) in
      ap (λ n. n * u.number) idle ∙ omega arith) in
      let before : turns_of e v * v.number ≡ 0 = ap (λ n. n * v.number) none_before ∙ omega arith in
      let mine : turns_of e w * w.number ≡ v.number = ap (λ n. n * v.number) one_now ∙ omega arith in
      let seat : turner (set s.views id w) e ≡ v.number =
      omega (arith, total-set (λ u. turns_of e u * u.number) s.views id v w me, no_number, before, mine) in record {
        there = may.within;
        allowed = (
          (belongs, waiting e may.within none, ready e reads turn cleared may.source was.says),
          ap (turns p (shown p s)) may.source ∙ none_in_turn p s k (was.turn ∙ clear),
        );
        happened = world_is _ _ _ _ _ _
            (phases_stay p s id k now v w me there holds.wide (λ j. refl)
            (still_finished word now reads turn cleared true cleared was.says becomes (winner s.views k)))
            (reads_become p s id k now v w me e (InTurn v.number) may.within refl
            (λ i differ. (refl, none_at e i (λ is. differ (sym is)) ∙ sym (ap (is_this i) rests)))
            (read_value (total (serves e) (set s.views id w)) (total (turns_of e) (set s.views id w)) (turner (set s.views id w) e) 0 1 v.number
            (omega (arith, total-stays (serves e) s.views id v w me refl, none)) in_turn seat))
            (tiles_stay p s id k now v w me there holds.wide refl (λ j. refl)
            (ap (tile_shown (total (leaves k) s.views) (leaver s.views k))
            (same_count word now reads turn cleared true cleared was.says becomes)));
      }

  pub turn_law :
      (e : ℕ) → v.turn ≡ None → MayServe p v e k → seat_of p (shown p s) e ≡ Some v.number → get_or s.words k 0 / 4 % 2 ≡ 0
      → Shows p s (after_step s k (bit_or (get_or s.words k 0) 4) id (with_turn v (Some e)) homes) (Turn v.number e)
  turn_law e rests may belongs clear =
      let it = is_open told p s id k e v holds me there rests may in
      turn_at e it.reads it.turn it.cleared rests may belongs
      (sym (turn_of_word it.turn it.cleared it.reads) ∙ sym (ap (λ n. n / 4 % 2) it.agrees.says) ∙ clear) it.agrees

  -- ---- give

  give_at :
      (e reads : ℕ) (turn cleared : Bool) → v.turn ≡ Some e → source_at p e ≡ k → get_or s.words k 0 < 2 ^ 64
      → Agrees told p k (get_or s.words k 0) (get_elem? s.homes k) s.views (Finished turn cleared reads)
      → Shows p s (after_step s k (bit_and (get_or s.words k 0) all_but_turn) id (with_turn v None) homes) (Give v.number e)
  give_at e reads turn cleared has source fits was =
      let w : View = with_turn v None in
      let word : ℕ = get_or s.words k 0 in
      let now : ℕ = bit_and word all_but_turn in
      let becomes : now ≡ encode (Finished false cleared reads) = ap (λ x. bit_and x all_but_turn) was.says
      ∙ turn_given turn cleared reads (subst (λ (x : ℕ). x < 2 ^ 64) was.says fits) in
      let mine = turn_mine told p s id e v holds me has in
      let one : turns_of e v ≡ 1 = ap (is_this e) has ∙ one_at e e refl in
      let within = (holds.views id v me).reads_within e (omega (arith, one)) in record {
        there = within;
        allowed = read_is p s e within
            ∙ read_value (total (serves e) s.views) (total (turns_of e) s.views) (turner s.views e) 0 1 v.number mine.0 mine.1 mine.2;
        happened = world_is _ _ _ _ _ _
            (phases_stay p s id k now v w me there holds.wide (λ j. refl)
            (still_finished word now reads turn cleared false cleared was.says becomes (winner s.views k)))
            (reads_become p s id k now v w me e Waiting within refl
            (λ i differ. (refl, sym (ap (is_this i) has ∙ none_at e i (λ is. differ (sym is)))))
            (read_value (total (serves e) (set s.views id w)) (total (turns_of e) (set s.views id w)) (turner (set s.views id w) e) 0 0
            (turner (set s.views id w) e) (total-stays (serves e) s.views id v w me refl ∙ mine.0)
            (omega (arith, total-set (turns_of e) s.views id v w me, mine.1, one)) refl))
            (tiles_stay p s id k now v w me there holds.wide refl (λ j. refl)
            (ap (tile_shown (total (leaves k) s.views) (leaver s.views k))
            (same_count word now reads turn cleared false cleared was.says becomes)));
      }

  give_shape :
      (e : ℕ) (shape : Shape) → turn_in shape ≡ 1 → v.turn ≡ Some e → source_at p e ≡ k → get_or s.words k 0 < 2 ^ 64
      → Agrees told p k (get_or s.words k 0) (get_elem? s.homes k) s.views shape
      → Shows p s (after_step s k (bit_and (get_or s.words k 0) all_but_turn) id (with_turn v None) homes) (Give v.number e)
  give_shape e Unclaimed one has source fits was = absurd (omega arith)
  give_shape e Taken one has source fits was = absurd (omega arith)
  give_shape e GivenUp one has source fits was = absurd (omega arith)
  give_shape e (Finished turn cleared reads) one has source fits was = give_at e reads turn cleared has source fits was

  pub give_law :
      (e : ℕ) → v.turn ≡ Some e → source_at p e ≡ k → get_or s.words k 0 < 2 ^ 64
      → Shows p s (after_step s k (bit_and (get_or s.words k 0) all_but_turn) id (with_turn v None) homes) (Give v.number e)
  give_law e has source fits =
      let part = holds.parts k there in
      let mine : turns_on p k v ≡ 1 = ap (is_read_of p k) has ∙ one_at (source_at p e) k source in
      let one : turn_in part.shape ≡ 1 = omega (
        arith,
        part.agrees.turn,
        mine,
        term_le (turns_on p k) s.views id v me,
        turn_in-most told p part.shape,
      ) in
      give_shape e part.shape one has source fits part.agrees

  -- ---- clear

  clear_at :
      (shape : Shape) → leaving_in shape ≡ 1 → v.leaving ≡ Some k
      → Agrees told p k (get_or s.words k 0) (get_elem? s.homes k) s.views shape
      → Shows p s (after_step s k (bit_or (get_or s.words k 0) 8) id (with_cleared v) homes) (Clear v.number k)
  clear_at Unclaimed one has was = absurd (omega arith)
  clear_at Taken one has was = absurd (omega arith)
  clear_at GivenUp one has was = absurd (omega arith)
  clear_at (Finished turn true reads) one has was = absurd (omega arith)
  clear_at (Finished turn false (suc reads)) one has was = absurd (omega arith)
  clear_at (Finished turn false zero) one has was =
      let w : View = with_cleared v in
      let word : ℕ = get_or s.words k 0 in
      let now : ℕ = bit_or word 8 in
      let becomes : now ≡ encode (Finished turn true 0) = ap (λ x. bit_or x 8) was.says ∙ cleared_set turn false 0 in
      let mine = leaving_mine told p s id k v holds me there has in
      let its : leaves k v ≡ 1 = ap (is_this k) has ∙ one_at k k refl in
      let none_now : total (leaves k) (set s.views id w) ≡ 0 = omega (arith, total-set (leaves k) s.views id v w me, mine.0, its) in
      let count : now / 16 ≡ 0 = ap (λ n. n / 16) becomes ∙ reads_of_word turn true 0 in record {
        there = there;
        allowed = tile_is p s k there ∙ ap₂ (λ a b. tile_shown a b (word / 16)) mine.0 mine.1;
        happened = world_is _ _ _ _ _ _
            (phases_stay p s id k now v w me there holds.wide (λ j. refl)
            (still_finished word now 0 turn false turn true was.says becomes (winner s.views k)))
            (reads_stay p s id k now v w me refl (λ e. (refl, refl)))
            (tiles_become p s id k now v w me Absent there holds.wide refl
            (λ j differ. sym (ap (is_this j) has ∙ none_at k j (λ is. differ (sym is))))
            (ap₂ (λ a b. tile_shown a (leaver (set s.views id w) k) b) none_now count));
      }

  pub clear_law :
      v.leaving ≡ Some k
      → Shows p s (after_step s k (bit_or (get_or s.words k 0) 8) id (with_cleared v) homes) (Clear v.number k)
  clear_law has =
      let part = holds.parts k there in
      clear_at part.shape (sym part.agrees.leaving ∙ (leaving_mine told p s id k v holds me there has).0) has part.agrees

  -- ---- retire

  served_now :
      (e : ℕ) (leaving : Option ℕ) (met : Met) → read_at (set s.views id (retired_view v e k leaving met)) e ≡ Served
  served_now e leaving met =
      let w : View = retired_view v e k leaving met in
      let more : 0 < total (serves e) (set s.views id w) =
      omega (arith, total-set (serves e) s.views id v w me, entries_push e v.number e v.served, one_at e e refl) in
      is_served (total (serves e) (set s.views id w)) (total (turns_of e) (set s.views id w)) (turner (set s.views id w) e) more
    where
      is_served : (a b c : ℕ) → 0 < a → read_shown a b c ≡ Served
      is_served zero b c some_served = absurd (omega arith)
      is_served (suc a) b c some_served = refl

  reads_served :
      (e now : ℕ) (leaving : Option ℕ) (met : Met) → e < reads_in p
      → (shown p (after_step s k now id (retired_view v e k leaving met) homes)).reads ≡ set (shown p s).reads e Served
  reads_served e now leaving met within =
      reads_become p s id k now v (retired_view v e k leaving met) me e Served within refl
      (λ i differ. (omega (arith, entries_push i v.number e v.served, none_at e i (λ is. differ (sym is))), refl))
      (served_now e leaving met)

  -- the reads that are open after it
  left_after :
      (e now : ℕ) (leaving : Option ℕ) (met : Met) → v.turn ≡ None → MayServe p v e k
      → left p (with_read (shown p s) e Served) k + 1 ≡ open_reads p s.views k
  left_after e now leaving met rests may =
      let w : View = retired_view v e k leaving met in
      let t : State Slot View = after_step s k now id w homes in
      let none_served : total (serves e) s.views ≡ 0 = omega (arith, unserved told p s id e k v holds me may rests) in
      let same : left p (with_read (shown p s) e Served) k ≡ left p (shown p t) k =
      ap (λ (l : List ReadState). left p (world (shown p s).phases l (shown p s).tiles) k)
      (sym (reads_served e now leaving met may.within)) in
      let less = open_less told p s.views id e k v w me may.within may.source none_served
      (omega (arith, entries_push e v.number e v.served, one_at e e refl))
      (λ i differ. omega (arith, entries_push i v.number e v.served, none_at e i (λ is. differ (sym is)))) in
      omega (arith, same, left_shown p t k, less)

  none_leaving : (cleared : Bool) (reads : ℕ) → leaving_of cleared (suc reads) ≡ 0
  none_leaving true reads = refl
  none_leaving false reads = refl

  -- other reads are open after it
  retire_more :
      (e now reads : ℕ) (turn cleared : Bool) (met : Met) → v.turn ≡ None → v.leaving ≡ None → MayServe p v e k
      → seat_of p (shown p s) e ≡ Some v.number
      → Agrees told p k (get_or s.words k 0) (get_elem? s.homes k) s.views (Finished turn cleared (suc (suc reads)))
      → now ≡ encode (Finished turn cleared (suc reads))
      → Shows p s (after_step s k now id (retired_view v e k None met) homes) (Retire v.number e)
  retire_more e now reads turn cleared met rests stays may belongs was becomes =
      let w : View = retired_view v e k None met in
      let word : ℕ = get_or s.words k 0 in
      let before : World = with_read (shown p s) e Served in
      let open_ones : left p before k ≢ 0 =
      λ none. absurd (omega (arith, left_after e now None met rests may, was.counted, none)) in
      let free : total (leaves k) s.views ≡ 0 = was.leaving ∙ none_leaving cleared (suc reads) in
      let held : tile_at s.words s.views k ≡ Held = ap (λ n. tile_shown n (leaver s.views k) (word / 16)) free
      ∙ held_tile (leaver s.views k) (word / 16)
      (omega (arith, ap (λ n. n / 16) was.says, reads_of_word turn cleared (suc (suc reads)))) in
      let still : tile_shown (total (leaves k) s.views) (leaver s.views k) (now / 16) ≡ Held =
      ap (λ n. tile_shown n (leaver s.views k) (now / 16)) free
      ∙ held_tile (leaver s.views k) (now / 16) (omega (arith, ap (λ n. n / 16) becomes, reads_of_word turn cleared (suc reads))) in record {
        there = may.within;
        allowed = (
          belongs,
          waiting e may.within (unserved told p s id e k v holds me may rests),
          ready e (suc (suc reads)) turn cleared may.source was.says,
        );
        happened = world_is _ _ _ _ _ _
            (phases_stay p s id k now v w me there holds.wide (λ j. refl)
            (finished_phase now (winner s.views k) (finished_more now (suc reads) turn cleared becomes)
            ∙ sym (finished_phase word (winner s.views k) (finished_more word (suc (suc reads)) turn cleared was.says))))
            (reads_served e now None met may.within)
            (tiles_stay p s id k now v w me there holds.wide refl (λ j. sym (ap (is_this j) stays)) (still ∙ sym held))
            ∙ sym (cond-false (left p before k == 0) (with_tile before k (Leaving v.number)) before (ne_eqb (left p before k) 0 open_ones))
            ∙ ap (left_by p before v.number) (sym may.source);
      }

  -- it was the last one
  retire_last :
      (e now : ℕ) (turn cleared : Bool) (met : Met) → v.turn ≡ None → v.leaving ≡ None → MayServe p v e k
      → seat_of p (shown p s) e ≡ Some v.number
      → Agrees told p k (get_or s.words k 0) (get_elem? s.homes k) s.views (Finished turn cleared 1)
      → now ≡ encode (Finished turn cleared 0)
      → Shows p s (after_step s k now id (retired_view v e k (Some k) met) homes) (Retire v.number e)
  retire_last e now turn cleared met rests stays may belongs was becomes =
      let w : View = retired_view v e k (Some k) met in
      let word : ℕ = get_or s.words k 0 in
      let before : World = with_read (shown p s) e Served in
      let none_left : left p before k ≡ 0 = omega (arith, left_after e now (Some k) met rests may, was.counted) in
      let free : total (leaves k) s.views ≡ 0 = was.leaving ∙ none_leaving cleared 0 in
      let none_before : leaves k v ≡ 0 = ap (is_this k) stays in
      let its : leaves k w ≡ 1 = one_at k k refl in
      let one : total (leaves k) (set s.views id w) ≡ 1 = omega (arith, total-set (leaves k) s.views id v w me, free, none_before, its) in
      let no_number : total (λ u. leaves k u * u.number) s.views ≡ 0 =
      total-zero (λ u. leaves k u * u.number) s.views (λ j u at.
      let idle : leaves k u ≡ 0 = omega (arith, term_le (leaves k) s.views j u at, free) in
      ap (λ n. n * u.number) idle ∙ omega arith) in
      let nothing : leaves k v * v.number ≡ 0 = ap (λ n. n * v.number) none_before ∙ omega arith in
      let mine : leaves k w * w.number ≡ v.number = ap (λ n. n * v.number) its ∙ omega arith in
      let seat : leaver (set s.views id w) k ≡ v.number =
      omega (arith, total-set (λ u. leaves k u * u.number) s.views id v w me, no_number, nothing, mine) in record {
        there = may.within;
        allowed = (
          belongs,
          waiting e may.within (unserved told p s id e k v holds me may rests),
          ready e 1 turn cleared may.source was.says,
        );
        happened = world_is _ _ _ _ _ _
            (phases_stay p s id k now v w me there holds.wide (λ j. refl)
            (finished_phase now (winner s.views k) (finished_more now 0 turn cleared becomes)
            ∙ sym (finished_phase word (winner s.views k) (finished_more word 1 turn cleared was.says))))
            (reads_served e now (Some k) met may.within)
            (tiles_become p s id k now v w me (Leaving v.number) there holds.wide refl
            (λ j differ. none_at k j (λ is. differ (sym is)) ∙ sym (ap (is_this j) stays))
            (ap₂ (λ a b. tile_shown a b (now / 16)) one seat))
            ∙ sym (cond-true (left p before k == 0) (with_tile before k (Leaving v.number)) before (eq-eqb (left p before k) 0 none_left))
            ∙ ap (left_by p before v.number) (sym may.source);
      }

  -- by how many reads there were
  retire_at :
      (e reads : ℕ) (turn cleared : Bool) (met : Met) → v.turn ≡ None → v.leaving ≡ None → MayServe p v e k
      → seat_of p (shown p s) e ≡ Some v.number → 0 < reads → get_or s.words k 0 < 2 ^ 64
      → Agrees told p k (get_or s.words k 0) (get_elem? s.homes k) s.views (Finished turn cleared reads)
      → (get_or s.words k 0 / 16 ≡ 1
      → Shows p s (after_step s k ((get_or s.words k 0 + (2 ^ 64 - 16)) % 2 ^ 64) id (retired_view v e k (Some k) met) homes) (Retire v.number e))
      × (get_or s.words k 0 / 16 ≢ 1
      → Shows p s (after_step s k ((get_or s.words k 0 + (2 ^ 64 - 16)) % 2 ^ 64) id (retired_view v e k None met) homes) (Retire v.number e))
  retire_at e zero turn cleared met rests stays may belongs open_ones fits was = absurd (omega arith)
  retire_at e (suc zero) turn cleared met rests stays may belongs open_ones fits was =
      let now : ℕ = (get_or s.words k 0 + (2 ^ 64 - 16)) % 2 ^ 64 in
      let becomes : now ≡ encode (Finished turn cleared 0) = ap (λ x. (x + (2 ^ 64 - 16)) % 2 ^ 64) was.says
      ∙ read_less turn cleared 0 (subst (λ (x : ℕ). x < 2 ^ 64) was.says fits) in (
        λ last. retire_last e now turn cleared met rests stays may belongs was becomes,
        λ more. absurd (more (ap (λ n. n / 16) was.says ∙ reads_of_word turn cleared 1)),
      )
  retire_at e (suc (suc reads)) turn cleared met rests stays may belongs open_ones fits was =
      let now : ℕ = (get_or s.words k 0 + (2 ^ 64 - 16)) % 2 ^ 64 in
      let becomes : now ≡ encode (Finished turn cleared (suc reads)) = ap (λ x. (x + (2 ^ 64 - 16)) % 2 ^ 64) was.says
      ∙ read_less turn cleared (suc reads) (subst (λ (x : ℕ). x < 2 ^ 64) was.says fits) in (
        λ last. absurd (omega (arith, last, ap (λ n. n / 16) was.says, reads_of_word turn cleared (suc (suc reads)))),
        λ more. retire_more e now reads turn cleared met rests stays may belongs was becomes,
      )

  pub retire_law :
      (e : ℕ) (met : Met) → v.turn ≡ None → v.leaving ≡ None → MayServe p v e k
      → seat_of p (shown p s) e ≡ Some v.number → get_or s.words k 0 < 2 ^ 64
      → (get_or s.words k 0 / 16 ≡ 1
      → Shows p s (after_step s k ((get_or s.words k 0 + (2 ^ 64 - 16)) % 2 ^ 64) id (retired_view v e k (Some k) met) homes) (Retire v.number e))
      × (get_or s.words k 0 / 16 ≢ 1
      → Shows p s (after_step s k ((get_or s.words k 0 + (2 ^ 64 - 16)) % 2 ^ 64) id (retired_view v e k None met) homes) (Retire v.number e))
  retire_law e met rests stays may belongs fits =
      let it = is_open told p s id k e v holds me there rests may in
      retire_at e it.reads it.turn it.cleared met rests stays may belongs it.open_ones fits it.agrees
