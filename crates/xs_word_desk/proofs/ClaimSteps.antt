-- The steps for an alias that is not finished keep the rule: claim, look, the two of finish, and abandon
use Rattle.std.proofs.Common.{◌≡◌, ◌≢◌, ◌<◌, ◌≤◌, ◌+◌, ℕ, zero, suc, Bool, true, false, ◌==◌, cond, Option, Some, None, List, ◌∷◌, length, set, get_or, refl, sym, ap, subst, ◌∙◌, inl, inr, arith, eqb, ne_of_gt}
use Rattle.std.proofs.lemmas.List.{length-set}
use Rattle.std.proofs.lemmas.Bool.{cases_eq, cases_Bool, ne_eqb, cond-false}
use mathlib.Core.Option.{some, none, some-injective}
use mathlib.Core.Option as slot
use lib.ListN.{get_elem?}
use prog.Atomic.{either}
use Rattle.atomic_table.specs.Table.{State, step, Act, keeps, takes, gives, Valid, carried_after, stepped, Allows}
use Rattle.xs_pixel.specs.Picture.{Pictures}
use Rattle.xs_raster.specs.declared.tile.Tile.{Tile}
use Rattle.xs_core.specs.Calls.{HoldsTile}
use Rattle.xs_plan.specs.Record.{PlanRecord}
use Rattle.xs_plan.specs.Reads.{readers_of}
use Rattle.xs_core.specs.Counts.{one_if}
use Rattle.xs_core.specs.Views.{Met, FoundIdle, FoundBusy, FoundLost}
use Rattle.xs_word_desk.specs.declared.view.View.{View}
use Rattle.xs_word_desk.specs.Sums.{total}
use Rattle.xs_word_desk.specs.Words.{Shape, Unclaimed, Taken, GivenUp, Finished, encode, won_in, leaving_of}
use Rattle.xs_word_desk.specs.Seen.{wins, makes, loses, knows, fills, is_this, is_live}
use Rattle.xs_word_desk.specs.Rule.{Slot, Home, Rests, Lies, Agrees, ViewOk, SeatsOk, Holds}
use Rattle.xs_word_desk.specs.Changes.{with_won, with_met, with_known, with_filling, with_made, with_lost}
use Rattle.xs_word_desk.specs.Plays.{At, IsSolo, Found, found_as, claimed, looked, took_out, finished, abandoned}
use Rattle.xs_word_desk.proofs.SumLemmas.{set_here, set_else, set_within, total-set, term_le, terms_le, total-single, total_le, total_gap, total-plus, entries_push, times_push}
use Rattle.xs_word_desk.proofs.ViewLemmas.{one_at, none_at, ok_met, ok_won, ok_known, ok_filling, ok_made, ok_lost}
use Rattle.xs_word_desk.proofs.WordLemmas.{taken_by_counts}
use Rattle.xs_word_desk.proofs.FrameLemmas.{Alike, SameSeat, OthersAtHome, total-stays, open_reads-stay, after, agrees_stays, part_moves, steps}

-- ---- a seat that is alone

-- every other seat is joined
pub others_joined :
    (views : List View) (id : ℕ) (v : View) → SeatsOk views → get_elem? views id ≡ some v → IsSolo v
    → (j : ℕ) (u : View) → j ≢ id → get_elem? views j ≡ some u → u.live ≡ false
others_joined views id v seats me solo j u differ there =
    elim (cases_eq id 0) [
      | inr other ↦ absurd ((seats.others id v me other).1 solo.0 solo.1)
      | inl first ↦
          let is : v ≡ seats.chief = some-injective v seats.chief (sym me ∙ ap (get_elem? views) first ∙ seats.first) in
          let alone : length seats.chief.apart ≡ 0 = ap (λ (x : View). length x.apart) (sym is) ∙ ap length solo.2 in
          let mine : is_live v ≡ 1 = ap one_if solo.0 in
          let both = terms_le is_live views id j v u differ me there in
          elim (cases_Bool u.live) [
            | inr joined ↦ joined
            | inl live ↦ let one : is_live u ≡ 1 = ap one_if live in absurd (omega (arith, both, mine, one, seats.many, alone))
          ]
    ]

module _ (told : Option Pictures) (p : PlanRecord) where
  -- so sums over all views are the seat's own
  pub alone_sum :
      (s : State Slot View) (id : ℕ) (v : View) (f : View → ℕ) → Holds told p s → get_elem? s.views id ≡ some v → IsSolo v
      → ((u : View) → ViewOk p u → u.live ≡ false → f u ≡ 0) → total f s.views ≡ f v
  alone_sum s id v f holds me solo empty =
      total-single f s.views id v me (λ j u differ there.
      empty u (holds.views j u there) (others_joined s.views id v holds.seats me solo j u differ there))

  -- what the word of an alias tells of any seat
  found_at :
      (s : State Slot View) (id k word : ℕ) (v : View) (home : Home) (shape : Shape) → Holds told p s
      → get_elem? s.views id ≡ some v → Agrees told p k word home s.views shape → Found v k word
  found_at s id k word v home Unclaimed holds me was = record {
    shape = Unclaimed;
    says = was.says;
    fresh = λ idle. omega (arith, term_le (wins k) s.views id v me, was.won);
    ready = λ known. absurd (omega (arith, was.known (omega (arith, known, term_le (knows k) s.views id v me))));
    alone_taken = λ solo taken. absurd (omega (arith, was.says, taken));
    alone_lost = λ solo lost. absurd (omega (arith, was.says, lost));
    alone_ready = λ solo finished. absurd (omega (arith, was.says, finished));
  }
  found_at s id k word v home Taken holds me was = record {
    shape = Taken;
    says = was.says;
    fresh = λ idle. absurd (omega (arith, was.says, idle));
    ready = λ known. absurd (omega (arith, was.known (omega (arith, known, term_le (knows k) s.views id v me))));
    alone_taken = λ solo taken.
        let mine = alone_sum s id v (wins k) holds me solo (λ u ok joined. omega (arith, ok.gone joined k)) in
        omega (arith, mine, was.won, was.made, was.lost, term_le (makes k) s.views id v me, term_le (loses k) s.views id v me);
    alone_lost = λ solo lost. absurd (omega (arith, was.says, lost));
    alone_ready = λ solo finished. absurd (omega (arith, was.says, finished));
  }
  found_at s id k word v home GivenUp holds me was = record {
    shape = GivenUp;
    says = was.says;
    fresh = λ idle. absurd (omega (arith, was.says, idle));
    ready = λ known. absurd (omega (arith, was.known (omega (arith, known, term_le (knows k) s.views id v me))));
    alone_taken = λ solo taken. absurd (omega (arith, was.says, taken));
    alone_lost = λ solo lost.
        let mine = alone_sum s id v (loses k) holds me solo
        (λ u ok joined. omega (arith, ok.gone joined k, ok.backed k)) in
        omega (arith, mine, was.lost);
    alone_ready = λ solo finished. absurd (omega (arith, was.says, finished));
  }
  found_at s id k word v home (Finished turn cleared reads) holds me was =
      let more : 3 ≤ word = omega (arith, was.says) in record {
        shape = Finished turn cleared reads;
        says = was.says;
        fresh = λ idle. absurd (omega (arith, more, idle));
        ready = λ known. (ne_of_gt (omega (arith, more)), ne_of_gt (omega (arith, more)), ne_of_gt (omega (arith, more)));
        alone_taken = λ solo taken. absurd (omega (arith, more, taken));
        alone_lost = λ solo lost. absurd (omega (arith, more, lost));
        alone_ready = λ solo finished.
            let mine = alone_sum s id v (makes k) holds me solo
            (λ u ok joined. omega (arith, ok.gone joined k, ok.backed k)) in
            omega (arith, mine, was.made);
      }

  pub found :
      (s : State Slot View) (id k : ℕ) (v : View) → Holds told p s → get_elem? s.views id ≡ some v → k < length p.entries
      → Found v k (get_or s.words k 0)
  found s id k v holds me there =
      let part = holds.parts k there in
      found_at s id k (get_or s.words k 0) v (get_elem? s.homes k) part.shape holds me part.agrees

  -- ---- the frame, where the slots stay

  pub stay_home : (k : ℕ) (homes : List (slot.Option Slot)) → OthersAtHome told p k homes homes
  stay_home k homes = record { many = refl; stay = λ j differ. refl }

  -- a step that leaves the word and all that the seat has of aliases
  pub unmoved :
      (s : State Slot View) (id k : ℕ) (c : List (ℕ × Slot)) (v w : View) → Holds told p s → get_elem? s.views id ≡ some v
      → k < length p.entries → ViewOk p w → SameSeat v w → ((j : ℕ) → Alike p j v w)
      → Holds told p (stepped s k (get_or s.words k 0) id c w keeps)
  unmoved s id k c v w holds me there ok same alike =
      let part = holds.parts k there in
      steps told p s k (get_or s.words k 0) id v w s.homes holds me there (stay_home k s.homes) (λ j differ. alike j) ok same
      (record {
        shape = part.shape;
        agrees = agrees_stays told p s.views id v w k (get_or s.words k 0) (get_elem? s.homes k) part.shape me (alike k) part.agrees;
      })

  -- the seat met something
  pub meets :
      (s : State Slot View) (id k : ℕ) (c : List (ℕ × Slot)) (v : View) (met : Met) → Holds told p s
      → get_elem? s.views id ≡ some v → k < length p.entries
      → Holds told p (stepped s k (get_or s.words k 0) id c (with_met v k met) keeps)
  meets s id k c v met holds me there =
      unmoved s id k c v (with_met v k met) holds me there (ok_met p v k met (holds.views id v me))
      (record { live = refl; number = refl; next = refl; apart = refl; joined = refl })
      (λ j. record {
        won = refl;
        made = refl;
        lost = refl;
        known = refl;
        filling = refl;
        leaving = refl;
        turn = refl;
        served = λ e is. refl;
      })

  -- the seat found the alias finished
  pub learns :
      (s : State Slot View) (id k : ℕ) (c : List (ℕ × Slot)) (v : View) (turn cleared : Bool) (reads : ℕ) → Holds told p s
      → get_elem? s.views id ≡ some v → k < length p.entries → v.live ≡ true
      → Agrees told p k (get_or s.words k 0) (get_elem? s.homes k) s.views (Finished turn cleared reads)
      → Holds told p (stepped s k (get_or s.words k 0) id c (with_known v k) keeps)
  learns s id k c v turn cleared reads holds me there live was =
      let w : View = with_known v k in
      let shape : Shape = Finished turn cleared reads in
      steps told p s k (get_or s.words k 0) id v w s.homes holds me there (stay_home k s.homes)
      (λ j differ. record {
        won = refl;
        made = refl;
        lost = refl;
        known = omega (arith, times_push j k v.known, none_at k j (λ is. differ (sym is)));
        filling = refl;
        leaving = refl;
        turn = refl;
        served = λ e is. refl;
      })
      (ok_known p v k live there (holds.views id v me))
      (record { live = refl; number = refl; next = refl; apart = refl; joined = refl })
      (part_moves told p s.views id v w k (get_or s.words k 0) (get_or s.words k 0) (get_elem? s.homes k) (get_elem? s.homes k) shape shape
      me was was.says (record { won = refl; made = refl; lost = refl; turn = refl; leaving = refl })
      (open_reads-stay p s.views id v w k me (λ e is. refl) ∙ was.counted) (λ there_is. refl)
      (subst (λ (m : ℕ). Lies told p k (get_elem? s.homes k) m shape) (sym (total-stays (fills k) s.views id v w me refl)) was.lies))

  -- the seat wins the alias
  pub wins_it :
      (s : State Slot View) (id k : ℕ) (c : List (ℕ × Slot)) (v : View) → Holds told p s → get_elem? s.views id ≡ some v
      → k < length p.entries → v.live ≡ true
      → Agrees told p k (get_or s.words k 0) (get_elem? s.homes k) s.views Unclaimed
      → Holds told p (stepped s k 1 id c (with_won v k) keeps)
  wins_it s id k c v holds me there live was =
      let w : View = with_won v k in
      steps told p s k 1 id v w s.homes holds me there (stay_home k s.homes)
      (λ j differ. record {
        won = omega (arith, entries_push j v.number k v.won, none_at k j (λ is. differ (sym is)));
        made = refl;
        lost = refl;
        known = refl;
        filling = refl;
        leaving = refl;
        turn = refl;
        served = λ e is. refl;
      })
      (ok_won p v k live there (holds.views id v me))
      (record { live = refl; number = refl; next = refl; apart = refl; joined = refl })
      (part_moves told p s.views id v w k (get_or s.words k 0) 1 (get_elem? s.homes k) (get_elem? s.homes k) Unclaimed Taken
      me was refl
      (record {
        won = omega (arith, entries_push k v.number k v.won, one_at k k refl);
        made = refl;
        lost = refl;
        turn = refl;
        leaving = refl;
      })
      (open_reads-stay p s.views id v w k me (λ e is. refl) ∙ was.counted)
      (λ there_is. absurd (omega (arith, was.known (omega (arith, there_is, total-stays (knows k) s.views id v w me refl)))))
      (let free : total (fills k) (set s.views id w) ≡ 0 = total-stays (fills k) s.views id v w me refl ∙ was.lies.0 in
      (omega (arith, free), λ empty. was.lies.1, λ one. absurd (omega (arith, free, one)))))

  -- ---- claim and look

  abbrev ClaimGoal : (s : State Slot View) (n id k : ℕ) (m : At) (word : ℕ) → Type 0
  ClaimGoal s n id k m word =
      (w : View) × (a : Act Slot) × Valid s.homes m.1 a × Holds told p (stepped s k (either (eqb word 0) 1 word) id m.1 w a)
      × claimed (step n k 0 1 none) m word (w, carried_after m.1 a)

  -- where the word is none of the three that are not finished
  not_three : {A : Type 0} (word : ℕ) (a b c d : A) → word ≢ 0 → word ≢ 1 → word ≢ 2
      → cond (word == 0) a (cond (word == 1) b (cond (word == 2) c d)) ≡ d
  not_three word a b c d idle busy lost =
      cond-false (word == 0) a (cond (word == 1) b (cond (word == 2) c d)) (ne_eqb word 0 idle)
      ∙ cond-false (word == 1) b (cond (word == 2) c d) (ne_eqb word 1 busy) ∙ cond-false (word == 2) c d (ne_eqb word 2 lost)

  claim_at :
      (s : State Slot View) (n id k : ℕ) (m : At) (shape : Shape) → Holds told p s → get_elem? s.views id ≡ some m.0
      → k < length p.entries → m.0.live ≡ true
      → Agrees told p k (get_or s.words k 0) (get_elem? s.homes k) s.views shape
      → ClaimGoal s n id k m (get_or s.words k 0)
  claim_at s n id k m Unclaimed holds me there live was =
      let is : get_or s.words k 0 ≡ 0 = was.says in
      subst (ClaimGoal s n id k m) (sym is) (
        with_won m.0 k,
        keeps,
        tt,
        wins_it s id k m.1 m.0 holds me there live was,
        (refl, subst (λ (word : ℕ). Found m.0 k word) is (found s id k m.0 holds me there)),
      )
  claim_at s n id k m Taken holds me there live was =
      let is : get_or s.words k 0 ≡ 1 = was.says in
      subst (ClaimGoal s n id k m) (sym is) (
        with_met m.0 k FoundBusy,
        keeps,
        tt,
        subst (λ (word : ℕ). Holds told p (stepped s k word id m.1 (with_met m.0 k FoundBusy) keeps)) is
            (meets s id k m.1 m.0 FoundBusy holds me there),
        (refl, subst (λ (word : ℕ). Found m.0 k word) is (found s id k m.0 holds me there)),
      )
  claim_at s n id k m GivenUp holds me there live was =
      let is : get_or s.words k 0 ≡ 2 = was.says in
      subst (ClaimGoal s n id k m) (sym is) (
        with_met m.0 k FoundLost,
        keeps,
        tt,
        subst (λ (word : ℕ). Holds told p (stepped s k word id m.1 (with_met m.0 k FoundLost) keeps)) is
            (meets s id k m.1 m.0 FoundLost holds me there),
        (refl, subst (λ (word : ℕ). Found m.0 k word) is (found s id k m.0 holds me there)),
      )
  claim_at s n id k m (Finished turn cleared reads) holds me there live was =
      let word : ℕ = get_or s.words k 0 in
      let more : 3 ≤ word = omega (arith, was.says) in
      let idle : word ≢ 0 = ne_of_gt (omega (arith, more)) in
      let busy : word ≢ 1 = ne_of_gt (omega (arith, more)) in
      let lost : word ≢ 2 = ne_of_gt (omega (arith, more)) in
      let same : either (eqb word 0) 1 word ≡ word = ap (λ b. either b 1 word) (ne_eqb word 0 idle) in (
        with_known m.0 k,
        keeps,
        tt,
        subst (λ (x : ℕ). Holds told p (stepped s k x id m.1 (with_known m.0 k) keeps)) (sym same)
            (learns s id k m.1 m.0 turn cleared reads holds me there live was),
        (
          ap (λ (v : View). (v, m.1)) (sym
              (not_three word (with_won m.0 k) (with_met m.0 k FoundBusy) (with_met m.0 k FoundLost) (with_known m.0 k) idle busy lost)),
          found s id k m.0 holds me there,
        ),
      )

  pub claims :
      (n id k : ℕ) (m : At) → k < length p.entries → m.0.live ≡ true
      → Allows (Holds told p) n id m k (λ word. either (eqb word 0) 1 word) (claimed (step n k 0 1 none) m)
  claims n id k m there live s holds deep me fits =
      let part = holds.parts k there in claim_at s n id k m part.shape holds me there live part.agrees

  abbrev LookGoal : (s : State Slot View) (n id k : ℕ) (m : At) (word : ℕ) → Type 0
  LookGoal s n id k m word =
      (w : View) × (a : Act Slot) × Valid s.homes m.1 a × Holds told p (stepped s k word id m.1 w a)
      × looked (step n k 0 0 none) m word (w, carried_after m.1 a)

  -- a look that found an alias not finished
  look_met :
      (s : State Slot View) (n id k word : ℕ) (m : At) (met : Met) → Holds told p s → get_elem? s.views id ≡ some m.0
      → k < length p.entries → get_or s.words k 0 ≡ word
      → with_met m.0 k met ≡ cond (word == 0) (with_met m.0 k FoundIdle) (found_as m.0 k word)
      → LookGoal s n id k m (get_or s.words k 0)
  look_met s n id k word m met holds me there is view_is =
      subst (LookGoal s n id k m) (sym is) (
        with_met m.0 k met,
        keeps,
        tt,
        subst (λ (x : ℕ). Holds told p (stepped s k x id m.1 (with_met m.0 k met) keeps)) is (meets s id k m.1 m.0 met holds me there),
        (ap (λ (v : View). (v, m.1)) view_is, subst (λ (x : ℕ). Found m.0 k x) is (found s id k m.0 holds me there)),
      )

  look_at :
      (s : State Slot View) (n id k : ℕ) (m : At) (shape : Shape) → Holds told p s → get_elem? s.views id ≡ some m.0
      → k < length p.entries → m.0.live ≡ true
      → Agrees told p k (get_or s.words k 0) (get_elem? s.homes k) s.views shape
      → LookGoal s n id k m (get_or s.words k 0)
  look_at s n id k m Unclaimed holds me there live was = look_met s n id k 0 m FoundIdle holds me there was.says refl
  look_at s n id k m Taken holds me there live was = look_met s n id k 1 m FoundBusy holds me there was.says refl
  look_at s n id k m GivenUp holds me there live was = look_met s n id k 2 m FoundLost holds me there was.says refl
  look_at s n id k m (Finished turn cleared reads) holds me there live was =
      let word : ℕ = get_or s.words k 0 in
      let more : 3 ≤ word = omega (arith, was.says) in
      let view_is = not_three word (with_met m.0 k FoundIdle) (with_met m.0 k FoundBusy) (with_met m.0 k FoundLost) (with_known m.0 k)
      (ne_of_gt (omega (arith, more))) (ne_of_gt (omega (arith, more))) (ne_of_gt (omega (arith, more))) in (
        with_known m.0 k,
        keeps,
        tt,
        learns s id k m.1 m.0 turn cleared reads holds me there live was,
        (ap (λ (v : View). (v, m.1)) (sym view_is), found s id k m.0 holds me there),
      )

  pub looks :
      (n id k : ℕ) (m : At) → k < length p.entries → m.0.live ≡ true
      → Allows (Holds told p) n id m k (λ word. word) (looked (step n k 0 0 none) m)
  looks n id k m there live s holds deep me fits =
      let part = holds.parts k there in look_at s n id k m part.shape holds me there live part.agrees

  -- ---- an alias that the seat has claimed

  -- what is made, lost and filled is won, also in all
  all_backed :
      (s : State Slot View) (k : ℕ) → Holds told p s
      → total (makes k) s.views + total (loses k) s.views + total (fills k) s.views ≤ total (wins k) s.views
  all_backed s k holds =
      let all = total_le (λ u. makes k u + loses k u + fills k u) (wins k) s.views (λ j u at. (holds.views j u at).backed k) in
      let sums = total-plus (λ u. makes k u + loses k u) (fills k) s.views in
      let parts = total-plus (makes k) (loses k) s.views in
      omega (arith, all, sums, parts)

  -- and what the seat lacks is lacking in all
  claimed_lacks :
      (s : State Slot View) (id k : ℕ) (v : View) → Holds told p s → get_elem? s.views id ≡ some v
      → makes k v + loses k v + fills k v < wins k v
      → total (makes k) s.views + total (loses k) s.views + total (fills k) s.views < total (wins k) s.views
  claimed_lacks s id k v holds me lacks =
      let all = total_gap (λ u. makes k u + loses k u + fills k u) (wins k) s.views id v (λ j u at. (holds.views j u at).backed k) me in
      let sums = total-plus (λ u. makes k u + loses k u) (fills k) s.views in
      let parts = total-plus (makes k) (loses k) s.views in
      omega (arith, all, sums, parts, lacks)

  pub won_in-most : (shape : Shape) → won_in shape ≤ 1
  won_in-most Unclaimed = omega arith
  won_in-most Taken = omega arith
  won_in-most GivenUp = omega arith
  won_in-most (Finished turn cleared reads) = omega arith

  -- so the alias that a seat has claimed is taken, and no slot of it is out but to be filled by this seat
  pub is_taken :
      (s : State Slot View) (id k : ℕ) (v : View) (shape : Shape) → Holds told p s → get_elem? s.views id ≡ some v
      → makes k v + loses k v + fills k v < wins k v
      → Agrees told p k (get_or s.words k 0) (get_elem? s.homes k) s.views shape
      → (shape ≡ Taken) × (total (fills k) s.views ≡ 0)
  is_taken s id k v shape holds me lacks was =
      let fewer = claimed_lacks s id k v holds me lacks in (
        taken_by_counts shape (omega (arith, fewer, was.won, was.made, was.lost)),
        omega (arith, fewer, was.won, was.made, was.lost, won_in-most shape),
      )

  -- the same of an alias that a seat fills
  pub is_filled :
      (s : State Slot View) (id k : ℕ) (v : View) (shape : Shape) → Holds told p s → get_elem? s.views id ≡ some v
      → fills k v ≡ 1 → Agrees told p k (get_or s.words k 0) (get_elem? s.homes k) s.views shape
      → (shape ≡ Taken) × (total (fills k) s.views ≡ 1)
  is_filled s id k v shape holds me one was =
      let all = all_backed s k holds in
      let mine = term_le (fills k) s.views id v me in (
        taken_by_counts shape (omega (arith, all, mine, one, was.won, was.made, was.lost, won_in-most shape)),
        omega (arith, all, mine, one, was.won, won_in-most shape),
      )

  -- ---- taking the slot out

  abbrev LookedOut : (s : State Slot View) (n id k : ℕ) (m : At) → Type 0
  LookedOut s n id k m =
      (w : View) × (a : Act Slot) × Valid s.homes m.1 a × Holds told p (stepped s k (get_or s.words k 0) id m.1 w a)
      × took_out (step n k 0 0 none) m (get_or s.words k 0) (w, carried_after m.1 a)

  takes_out_at :
      (s : State Slot View) (n id k : ℕ) (m : At) → Holds told p s → get_elem? s.views id ≡ some m.0
      → k < length p.entries → m.0.live ≡ true → m.0.filling ≡ None → makes k m.0 + loses k m.0 < wins k m.0
      → total (fills k) s.views ≡ 0
      → Agrees told p k (get_or s.words k 0) (get_elem? s.homes k) s.views Taken
      → LookedOut s n id k m
  takes_out_at s n id k m holds me there live rests claimed_it free was =
      let w : View = with_filling m.0 k in
      let homes : List (slot.Option Slot) = set s.homes k none in
      let home : get_elem? s.homes k ≡ some (some None) = was.lies.1 free in (
        w,
        takes k None,
        home,
        steps told p s k (get_or s.words k 0) id m.0 w homes holds me there
            (record { many = length-set s.homes k none; stay = λ j differ. set_else s.homes k j none differ })
            (λ j differ. record {
              won = refl;
              made = refl;
              lost = refl;
              known = refl;
              filling = none_at k j (λ is. differ (sym is)) ∙ sym (ap (is_this j) rests);
              leaving = refl;
              turn = refl;
              served = λ e is. refl;
            })
            (ok_filling p m.0 k live rests claimed_it (holds.views id m.0 me))
            (record { live = refl; number = refl; next = refl; apart = refl; joined = refl })
            (part_moves told p s.views id m.0 w k (get_or s.words k 0) (get_or s.words k 0) (get_elem? s.homes k) (get_elem? homes k)
            Taken Taken me was was.says
            (record { won = refl; made = refl; lost = refl; turn = refl; leaving = refl })
            (open_reads-stay p s.views id m.0 w k me (λ e is. refl) ∙ was.counted)
            (λ there_is. was.known (omega (arith, there_is, total-stays (knows k) s.views id m.0 w me refl)))
            (let none_before : fills k m.0 ≡ 0 = ap (is_this k) rests in
            let one : total (fills k) (set s.views id w) ≡ 1 = omega (arith, total-set (fills k) s.views id m.0 w me, free, none_before, one_at k k refl) in
            (omega (arith, one), λ empty. absurd (omega (arith, one, empty)), λ filled. set_here s.homes k (some None) none home))),
        refl,
      )

  pub takes_out :
      (n id k : ℕ) (m : At) → k < length p.entries → m.0.live ≡ true → m.0.filling ≡ None
      → makes k m.0 + loses k m.0 < wins k m.0
      → Allows (Holds told p) n id m k (λ word. word) (took_out (step n k 0 0 none) m)
  takes_out n id k m there live rests claimed_it s holds deep me fits =
      let part = holds.parts k there in
      let free : fills k m.0 ≡ 0 = ap (is_this k) rests in
      let taken = is_taken s id k m.0 part.shape holds me (omega (arith, claimed_it, free)) part.agrees in
      takes_out_at s n id k m holds me there live rests claimed_it taken.1
      (subst (Agrees told p k (get_or s.words k 0) (get_elem? s.homes k) s.views) taken.0 part.agrees)

  -- ---- finish

  rests_with :
      (k : ℕ) (home : Home) (reads : ℕ) (t : Tile) → 0 < reads → home ≡ some (some (Some t)) → HoldsTile told p k t
      → Rests told p k home false false reads
  rests_with k home zero t open_ones is value = absurd (omega arith)
  rests_with k home (suc reads) t open_ones is value = (t, is, value)

  none_leaving : (reads : ℕ) → 0 < reads → leaving_of false reads ≡ 0
  none_leaving zero open_ones = absurd (omega arith)
  none_leaving (suc reads) open_ones = refl

  finish_at :
      (s : State Slot View) (id k : ℕ) (v : View) (t : Tile) (word : ℕ) → Holds told p s → get_elem? s.views id ≡ some v
      → k < length p.entries → v.live ≡ true → v.filling ≡ Some k → HoldsTile told p k t
      → word ≡ encode (Finished false false (readers_of p k)) → total (fills k) s.views ≡ 1
      → Agrees told p k (get_or s.words k 0) (get_elem? s.homes k) s.views Taken
      → Holds told p (after told p s k word id (with_made v k) (set s.homes k (some (Some t))))
  finish_at s id k v t word holds me there live fills_k value word_is one was =
      let w : View = with_made v k in
      let homes : List (slot.Option Slot) = set s.homes k (some (Some t)) in
      let readers : ℕ = readers_of p k in
      let now : Shape = Finished false false readers in
      let open_ones : 0 < readers = omega (arith, holds.plan.read k there) in
      let filled : fills k v ≡ 1 = ap (is_this k) fills_k ∙ one_at k k refl in
      let none_now : total (fills k) (set s.views id w) ≡ 0 = omega (arith, total-set (fills k) s.views id v w me, one, filled) in
      steps told p s k word id v w homes holds me there
      (record { many = length-set s.homes k (some (Some t)); stay = λ j differ. set_else s.homes k j (some (Some t)) differ })
      (λ j differ. record {
        won = refl;
        made = omega (arith, entries_push j v.number k v.made, none_at k j (λ is. differ (sym is)));
        lost = refl;
        known = omega (arith, times_push j k v.known, none_at k j (λ is. differ (sym is)));
        filling = sym (ap (is_this j) fills_k ∙ none_at k j (λ is. differ (sym is)));
        leaving = refl;
        turn = refl;
        served = λ e is. refl;
      })
      (ok_made p v k live fills_k (holds.views id v me))
      (record { live = refl; number = refl; next = refl; apart = refl; joined = refl })
      (part_moves told p s.views id v w k (get_or s.words k 0) word (get_elem? s.homes k) (get_elem? homes k) Taken now me was word_is
      (record {
        won = refl;
        made = omega (arith, entries_push k v.number k v.made, one_at k k refl);
        lost = refl;
        turn = refl;
        leaving = omega (arith, none_leaving readers open_ones);
      })
      (open_reads-stay p s.views id v w k me (λ e is. refl) ∙ was.counted) (λ there_is. refl)
      (none_now, rests_with k (get_elem? homes k) readers t open_ones (set_within s.homes k (some (Some t)) (omega (arith, holds.deep, there))) value))

  pub finishes :
      (n id k word : ℕ) (v : View) (t : Tile) (c : List (ℕ × Slot)) → k < length p.entries → v.live ≡ true
      → v.filling ≡ Some k → HoldsTile told p k t → word ≡ encode (Finished false false (readers_of p k))
      → Allows (Holds told p) n id (v, (k, Some t) ∷ c) k (λ found. word) (finished (step n k word 0 none) (v, (k, Some t) ∷ c))
  finishes n id k word v t c there live fills_k value word_is s holds deep me fits =
      let part = holds.parts k there in
      let one : fills k v ≡ 1 = ap (is_this k) fills_k ∙ one_at k k refl in
      let filled = is_filled s id k v part.shape holds me one part.agrees in (
        with_made v k,
        gives,
        tt,
        finish_at s id k v t word holds me there live fills_k value word_is filled.1
            (subst (Agrees told p k (get_or s.words k 0) (get_elem? s.homes k) s.views) filled.0 part.agrees),
        refl,
      )

  -- ---- abandon

  abandon_at :
      (s : State Slot View) (id k : ℕ) (c : List (ℕ × Slot)) (v : View) → Holds told p s → get_elem? s.views id ≡ some v
      → k < length p.entries → v.live ≡ true → fills k v ≡ 0 → makes k v + loses k v < wins k v
      → total (fills k) s.views ≡ 0
      → Agrees told p k (get_or s.words k 0) (get_elem? s.homes k) s.views Taken
      → Holds told p (stepped s k 2 id c (with_lost v k) keeps)
  abandon_at s id k c v holds me there live rests claimed_it free was =
      let w : View = with_lost v k in
      steps told p s k 2 id v w s.homes holds me there (stay_home k s.homes)
      (λ j differ. record {
        won = refl;
        made = refl;
        lost = omega (arith, entries_push j v.number k v.lost, none_at k j (λ is. differ (sym is)));
        known = refl;
        filling = refl;
        leaving = refl;
        turn = refl;
        served = λ e is. refl;
      })
      (ok_lost p v k live rests claimed_it (holds.views id v me))
      (record { live = refl; number = refl; next = refl; apart = refl; joined = refl })
      (part_moves told p s.views id v w k (get_or s.words k 0) 2 (get_elem? s.homes k) (get_elem? s.homes k) Taken GivenUp me was refl
      (record {
        won = refl;
        made = refl;
        lost = omega (arith, entries_push k v.number k v.lost, one_at k k refl);
        turn = refl;
        leaving = refl;
      })
      (open_reads-stay p s.views id v w k me (λ e is. refl) ∙ was.counted)
      (λ there_is. absurd (omega (arith, was.known (omega (arith, there_is, total-stays (knows k) s.views id v w me refl)))))
      (total-stays (fills k) s.views id v w me refl ∙ free, was.lies.1 free))

  pub abandons :
      (n id k : ℕ) (m : At) → k < length p.entries → m.0.live ≡ true → m.0.filling ≡ None
      → makes k m.0 + loses k m.0 < wins k m.0
      → Allows (Holds told p) n id m k (λ found. 2) (abandoned (step n k 2 0 none) m)
  abandons n id k m there live rests claimed_it s holds deep me fits =
      let part = holds.parts k there in
      let free : fills k m.0 ≡ 0 = ap (is_this k) rests in
      let taken = is_taken s id k m.0 part.shape holds me (omega (arith, claimed_it, free)) part.agrees in (
        with_lost m.0 k,
        keeps,
        tt,
        abandon_at s id k m.1 m.0 holds me there live free claimed_it taken.1
            (subst (Agrees told p k (get_or s.words k 0) (get_elem? s.homes k) s.views) taken.0 part.agrees),
        refl,
      )
