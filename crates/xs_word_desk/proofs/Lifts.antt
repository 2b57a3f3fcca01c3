-- Each kind of step is its event or none, and so keeps the rule with its history
use Rattle.std.proofs.Common.{◌≡◌, ◌≢◌, ◌<◌, ◌≤◌, ◌+◌, ◌-◌, ◌/◌, ◌%◌, ◌^◌, ℕ, Bool, true, false, ◌==◌, cond, Option, Some, None, List, ◌∷◌, length, get_or, refl, sym, ap, subst, ◌∙◌, inl, inr, arith, eqb, eqb-true, bit_and, bit_or}
use Rattle.std.proofs.lemmas.Bool.{cases_eq, cond_both, eqb-false}
use mathlib.Core.Option.{some, none}
use mathlib.Core.Option as slot
use lib.ListN.{get_elem?}
use prog.Atomic.{either}
use Rattle.atomic_table.specs.Table.{State, step, Allows}
use Rattle.xs_pixel.specs.Picture.{Pictures}
use Rattle.xs_raster.specs.declared.tile.Tile.{Tile}
use Rattle.xs_plan.specs.Record.{PlanRecord}
use Rattle.xs_plan.specs.Reads.{readers_of}
use Rattle.xs_core.specs.declared.event.Event.TheVariants.{Claim, Finish, Abandon, Turn, Give, Retire, Clear}
use Rattle.xs_core.specs.States.{source_at, reader_at}
use Rattle.xs_core.specs.Calls.{HoldsTile}
use Rattle.xs_core.specs.Views.{Met, FoundIdle, FoundBusy, FoundLost, FoundInTurn, LeftOpen, entries}
use Rattle.xs_word_desk.specs.declared.view.View.{View}
use Rattle.xs_word_desk.specs.Words.{Finished, encode}
use Rattle.xs_word_desk.specs.Seen.{wins, makes, loses, fills, serves, is_this}
use Rattle.xs_word_desk.specs.Rule.{Slot, Holds}
use Rattle.xs_word_desk.specs.Changes.{with_won, with_met, with_known, with_filling, with_served}
use Rattle.xs_word_desk.specs.Plays.{At, MayServe, found_as, claimed, looked, took_out, finished, abandoned, turned, gave, retired, cleared}
use Rattle.xs_word_desk.specs.Own.{Own}
use Rattle.xs_word_desk.specs.Shown.{number_sum, shown, after_step, Shows}
use Rattle.xs_word_desk.specs.Traced.{Traced, Effect, IsEvent}
use Rattle.xs_word_desk.proofs.WordLemmas.{turn_of_word, turn_set, all_but_turn}
use Rattle.xs_word_desk.proofs.SumLemmas.{term_le}
use Rattle.xs_word_desk.proofs.ViewLemmas.{one_at}
use Rattle.xs_word_desk.proofs.OwnLemmas.{own_met, own_known, own_filling, own_cleared, own_won, own_made, own_lost, own_turn, own_given, own_served}
use Rattle.xs_word_desk.proofs.ClaimSteps.{won_in-most, claims, looks, takes_out, finishes, abandons}
use Rattle.xs_word_desk.proofs.ReadSteps.{unserved, is_open, turns_it, gives_it, retires, clears}
use Rattle.xs_word_desk.proofs.ShownLemmas.{world_is, phases_stay, reads_stay, tiles_stay}
use Rattle.xs_word_desk.proofs.StepLaws.{claim_law, finish_law, abandon_law, turn_law, give_law, retire_law, clear_law}
use Rattle.xs_word_desk.proofs.Traces.{traces, own_some, belongs}

-- a view in which nothing has changed of which the state shown speaks
pub record Quiet (v w : View) : Type 0 where
  pub number : w.number ≡ v.number
  pub won : w.won ≡ v.won
  pub served : w.served ≡ v.served
  pub turn : w.turn ≡ v.turn
  pub leaving : w.leaving ≡ v.leaving

module _ (told : Option Pictures) (p : PlanRecord) (id k : ℕ) (there : k < length p.entries) where
  pub quiet :
      (s : State Slot View) (word : ℕ) (v w : View) (homes : List (slot.Option Slot)) → Holds told p s
      → get_elem? s.views id ≡ some v → word ≡ get_or s.words k 0 → Quiet v w
      → shown p (after_step s k word id w homes) ≡ shown p s
  quiet s word v w homes holds me same still =
      ap (λ (n : ℕ). shown p (after_step s k n id w homes)) same
      ∙ world_is _ _ _ _ _ _
      (phases_stay p s id k (get_or s.words k 0) v w me there holds.wide (λ j. ap (number_sum j) still.won) refl)
      (reads_stay p s id k (get_or s.words k 0) v w me still.number (λ e. (ap (entries e) still.served, ap (is_this e) still.turn)))
      (tiles_stay p s id k (get_or s.words k 0) v w me there holds.wide still.number (λ j. ap (is_this j) still.leaving) refl)

  wins_once : (s : State Slot View) (v : View) → Holds told p s → get_elem? s.views id ≡ some v → wins k v ≤ 1
  wins_once s v holds me =
      let part = holds.parts k there in
      omega (arith, term_le (wins k) s.views id v me, part.agrees.won, won_in-most told p part.shape)

  -- ---- claim and look

  -- a seat that found the alias not idle
  found_quiet :
      (s : State Slot View) (v : View) (homes : List (slot.Option Slot)) → Holds told p s → Own p v
      → get_elem? s.views id ≡ some v
      → Own p (found_as v k (get_or s.words k 0))
      × (shown p (after_step s k (get_or s.words k 0) id (found_as v k (get_or s.words k 0)) homes) ≡ shown p s)
  found_quiet s v homes holds own me =
      let word : ℕ = get_or s.words k 0 in
      let stays : View → Type 0 = λ w. Own p w × (shown p (after_step s k word id w homes) ≡ shown p s) in
      cond_both (word == 1) (with_met v k FoundBusy) (cond (word == 2) (with_met v k FoundLost) (with_known v k)) stays
      (λ busy. (own_met p v k FoundBusy own, quiet s word v (with_met v k FoundBusy) homes holds me refl (still_met FoundBusy)))
      (λ free. cond_both (word == 2) (with_met v k FoundLost) (with_known v k) stays
      (λ lost. (own_met p v k FoundLost own, quiet s word v (with_met v k FoundLost) homes holds me refl (still_met FoundLost)))
      (λ made. (
        own_known p v k own,
        quiet s word v (with_known v k) homes holds me refl
            (record { number = refl; won = refl; served = refl; turn = refl; leaving = refl }),
      )))
    where
      still_met : (met : Met) → Quiet v (with_met v k met)
      still_met met = record { number = refl; won = refl; served = refl; turn = refl; leaving = refl }

  pub claim_event :
      (n : ℕ) (m : At)
      → IsEvent told p id m k (λ word. either (word == 0) 1 word) (claimed (step n k 0 1 none) m)
      (λ word. cond (word == 0) (Some (Claim m.0.number k)) None)
  claim_event n m s holds own me fits w c homes then =
      subst
      (λ (u : View). Own p u × Effect p s (after_step s k (either (get_or s.words k 0 == 0) 1 (get_or s.words k 0)) id u homes)
      (cond (get_or s.words k 0 == 0) (Some (Claim m.0.number k)) None)) (sym (ap (λ (x : At). x.0) then.0))
      (by_word (get_or s.words k 0 == 0) refl)
    where
      by_word :
          (b : Bool) → (get_or s.words k 0 == 0) ≡ b
          → Own p (cond b (with_won m.0 k) (found_as m.0 k (get_or s.words k 0)))
          × Effect p s
          (after_step s k (either b 1 (get_or s.words k 0)) id (cond b (with_won m.0 k) (found_as m.0 k (get_or s.words k 0))) homes)
          (cond b (Some (Claim m.0.number k)) None)
      by_word true idle = (own_won p m.0 k own, claim_law told p s id k m.0 homes holds me there (eqb-true (get_or s.words k 0) 0 idle))
      by_word false taken = found_quiet s m.0 homes holds own me

  pub look_event :
      (n : ℕ) (m : At) → IsEvent told p id m k (λ word. word) (looked (step n k 0 0 none) m) (λ word. None)
  look_event n m s holds own me fits w c homes then =
      let word : ℕ = get_or s.words k 0 in
      subst (λ (u : View). Own p u × (shown p (after_step s k word id u homes) ≡ shown p s)) (sym (ap (λ (x : At). x.0) then.0))
      (cond_both (word == 0) (with_met m.0 k FoundIdle) (found_as m.0 k word)
      (λ u. Own p u × (shown p (after_step s k word id u homes) ≡ shown p s))
      (λ idle. (
        own_met p m.0 k FoundIdle own,
        quiet s word m.0 (with_met m.0 k FoundIdle) homes holds me refl
            (record { number = refl; won = refl; served = refl; turn = refl; leaving = refl }),
      ))
      (λ taken. found_quiet s m.0 homes holds own me))

  -- ---- finish and abandon

  pub take_out_event :
      (n : ℕ) (m : At) → IsEvent told p id m k (λ word. word) (took_out (step n k 0 0 none) m) (λ word. None)
  take_out_event n m s holds own me fits w c homes then =
      let word : ℕ = get_or s.words k 0 in
      subst (λ (u : View). Own p u × (shown p (after_step s k word id u homes) ≡ shown p s)) (sym (ap (λ (x : At). x.0) then)) (
        own_filling p m.0 k own,
        quiet s word m.0 (with_filling m.0 k) homes holds me refl
            (record { number = refl; won = refl; served = refl; turn = refl; leaving = refl }),
      )

  pub finish_event :
      (n next : ℕ) (m : At) → m.0.filling ≡ Some k → next ≡ encode (Finished false false (readers_of p k))
      → IsEvent told p id m k (λ word. next) (finished (step n k next 0 none) m) (λ word. Some (Finish m.0.number k))
  finish_event n next m fills_k next_is s holds own me fits w c homes then =
      let v : View = m.0 in
      let filled : fills k v ≡ 1 = ap (is_this k) fills_k ∙ one_at k k refl in
      let has : makes k v + loses k v < wins k v = omega (arith, (holds.views id v me).backed k, filled) in
      subst (λ (u : View). Own p u × Shows p s (after_step s k next id u homes) (Finish v.number k)) (sym (ap (λ (x : At). x.0) then)) (
        own_made p v k has (wins_once s v holds me) own,
        finish_law told p s id k v homes holds me there next fills_k (own.claims_own k has) next_is,
      )

  pub abandon_event :
      (n : ℕ) (m : At) → m.0.filling ≡ None → makes k m.0 + loses k m.0 < wins k m.0
      → IsEvent told p id m k (λ word. 2) (abandoned (step n k 2 0 none) m) (λ word. Some (Abandon m.0.number k))
  abandon_event n m rests has s holds own me fits w c homes then =
      let v : View = m.0 in
      subst (λ (u : View). Own p u × Shows p s (after_step s k 2 id u homes) (Abandon v.number k)) (sym (ap (λ (x : At). x.0) then)) (
        own_lost p v k has (wins_once s v holds me) own,
        abandon_law told p s id k v homes holds me there rests has (own.claims_own k has),
      )

  -- ---- turn and give

  -- where the tile is in turn the word stays
  turn_stays :
      (s : State Slot View) (e : ℕ) (v : View) → Holds told p s → get_elem? s.views id ≡ some v → v.turn ≡ None
      → MayServe p v e k → get_or s.words k 0 / 4 % 2 ≢ 0 → bit_or (get_or s.words k 0) 4 ≡ get_or s.words k 0
  turn_stays s e v holds me rests may in_turn =
      let it = is_open told p s id k e v holds me there rests may in
      by_turn it.turn it.cleared it.reads it.agrees.says
    where
      by_turn :
          (turn cleared : Bool) (reads : ℕ) → get_or s.words k 0 ≡ encode (Finished turn cleared reads)
          → bit_or (get_or s.words k 0) 4 ≡ get_or s.words k 0
      by_turn true cleared reads is = ap (λ n. bit_or n 4) is ∙ turn_set true cleared reads ∙ sym is
      by_turn false cleared reads is = absurd (in_turn (ap (λ n. n / 4 % 2) is ∙ turn_of_word false cleared reads))

  pub turn_event :
      (n e : ℕ) (m : At) → m.0.turn ≡ None → MayServe p m.0 e k
      → IsEvent told p id m k (λ word. bit_or word 4) (turned told p e (step n k 4 0 none) m)
      (λ word. cond (word / 4 % 2 == 0) (Some (Turn m.0.number e)) None)
  turn_event n e m rests may s holds own me fits w c homes then = by_turn (get_or s.words k 0 / 4 % 2 == 0) refl
    where
      by_turn :
          (b : Bool) → (get_or s.words k 0 / 4 % 2 == 0) ≡ b
          → Own p w × Effect p s (after_step s k (bit_or (get_or s.words k 0) 4) id w homes) (cond b (Some (Turn m.0.number e)) None)
      by_turn true clear =
          let free = eqb-true (get_or s.words k 0 / 4 % 2) 0 clear in
          subst
          (λ (u : View). Own p u × Shows p s (after_step s k (bit_or (get_or s.words k 0) 4) id u homes) (Turn m.0.number e))
          (sym (ap (λ (x : At). x.0) (then.0 free).1)) (
            own_turn p m.0 e (own_some told p (reader_at p e) m.0 may.own) own,
            turn_law told p s id k m.0 homes holds me there e rests may
                (belongs told p s id m.0 (reader_at p e) holds own me may.own) free,
          )
      by_turn false taken =
          let busy = eqb-false (get_or s.words k 0 / 4 % 2) 0 taken in
          subst
          (λ (u : View). Own p u × (shown p (after_step s k (bit_or (get_or s.words k 0) 4) id u homes) ≡ shown p s))
          (sym (ap (λ (x : At). x.0) (then.1 busy).0)) (
            own_met p m.0 k FoundInTurn own,
            quiet s (bit_or (get_or s.words k 0) 4) m.0 (with_met m.0 k FoundInTurn) homes holds me
                (turn_stays s e m.0 holds me rests may busy)
                (record { number = refl; won = refl; served = refl; turn = refl; leaving = refl }),
          )

  pub give_event :
      (n e : ℕ) (m : At) → m.0.turn ≡ Some e → source_at p e ≡ k
      → IsEvent told p id m k (λ word. bit_and word all_but_turn) (gave (step n k all_but_turn 0 none) m)
      (λ word. Some (Give m.0.number e))
  give_event n e m has source s holds own me fits w c homes then =
      subst
      (λ (u : View). Own p u × Shows p s (after_step s k (bit_and (get_or s.words k 0) all_but_turn) id u homes) (Give m.0.number e))
      (sym (ap (λ (x : At). x.0) then))
      (own_given p m.0 own, give_law told p s id k m.0 homes holds me there e has source fits)

  -- ---- retire and clear

  pub retire_event :
      (n e : ℕ) (m : At) → m.0.turn ≡ None → m.0.leaving ≡ None → MayServe p m.0 e k
      → IsEvent told p id m k (λ word. (word + (2 ^ 64 - 16)) % 2 ^ 64) (retired p e (step n k 16 0 none) m)
      (λ word. Some (Retire m.0.number e))
  retire_event n e m rests stays may s holds own me fits w c homes then =
      let v : View = m.0 in
      let word : ℕ = get_or s.words k 0 in
      let now : ℕ = (word + (2 ^ 64 - 16)) % 2 ^ 64 in
      let fresh : serves e v ≡ 0 = omega (
        arith,
        unserved told p s id e k v holds me may rests,
        term_le (serves e) s.views id v me,
      ) in
      let some_own = own_some told p (reader_at p e) v may.own in
      let mine = belongs told p s id v (reader_at p e) holds own me may.own in
      elim (cases_eq (word / 16) 1) [
        | inl last ↦
            subst (λ (u : View). Own p u × Shows p s (after_step s k now id u homes) (Retire v.number e))
            (sym (ap (λ (x : At). x.0) (then.0 last).1)) (
              own_met p (with_served v e (Some k)) k (LeftOpen 0) (own_served p v e (Some k) some_own fresh own),
              (retire_law told p s id k v homes holds me there e (LeftOpen 0) rests stays may mine fits).0 last,
            )
        | inr more ↦
            subst (λ (u : View). Own p u × Shows p s (after_step s k now id u homes) (Retire v.number e))
            (sym (ap (λ (x : At). x.0) (then.1 more))) (
              own_met p (with_served v e None) k (LeftOpen (word / 16 - 1)) (own_served p v e None some_own fresh own),
              (retire_law told p s id k v homes holds me there e (LeftOpen (word / 16 - 1)) rests stays may mine fits).1 more,
            )
      ]

  pub clear_event :
      (n : ℕ) (m : At) → m.0.leaving ≡ Some k
      → IsEvent told p id m k (λ word. bit_or word 8) (cleared (step n k 8 0 none) m) (λ word. Some (Clear m.0.number k))
  clear_event n m has s holds own me fits w c homes then =
      subst (λ (u : View). Own p u × Shows p s (after_step s k (bit_or (get_or s.words k 0) 8) id u homes) (Clear m.0.number k))
      (sym (ap (λ (x : At). x.0) then))
      (own_cleared p m.0 own, clear_law told p s id k m.0 homes holds me there has)

-- ---- so each keeps the rule with its history

module _ (told : Option Pictures) (p : PlanRecord) (n id k : ℕ) (m : At) (there : k < length p.entries) where
  pub claims_traced :
      m.0.live ≡ true
      → Allows (Traced told p) n id m k (λ word. either (eqb word 0) 1 word) (claimed (step n k 0 1 none) m)
  claims_traced live =
      traces told p n id k m (λ word. either (eqb word 0) 1 word) (claimed (step n k 0 1 none) m)
      (λ word. cond (word == 0) (Some (Claim m.0.number k)) None)
      (claims told p n id k m there live) (claim_event told p id k there n m)

  pub looks_traced :
      m.0.live ≡ true → Allows (Traced told p) n id m k (λ word. word) (looked (step n k 0 0 none) m)
  looks_traced live =
      traces told p n id k m (λ word. word) (looked (step n k 0 0 none) m) (λ word. None)
      (looks told p n id k m there live) (look_event told p id k there n m)

  pub takes_out_traced :
      m.0.live ≡ true → m.0.filling ≡ None → makes k m.0 + loses k m.0 < wins k m.0
      → Allows (Traced told p) n id m k (λ word. word) (took_out (step n k 0 0 none) m)
  takes_out_traced live rests has =
      traces told p n id k m (λ word. word) (took_out (step n k 0 0 none) m) (λ word. None)
      (takes_out told p n id k m there live rests has) (take_out_event told p id k there n m)

  pub abandons_traced :
      m.0.live ≡ true → m.0.filling ≡ None → makes k m.0 + loses k m.0 < wins k m.0
      → Allows (Traced told p) n id m k (λ found. 2) (abandoned (step n k 2 0 none) m)
  abandons_traced live rests has =
      traces told p n id k m (λ found. 2) (abandoned (step n k 2 0 none) m) (λ word. Some (Abandon m.0.number k))
      (abandons told p n id k m there live rests has) (abandon_event told p id k there n m rests has)

  pub turns_traced :
      (e : ℕ) → m.0.live ≡ true → m.0.turn ≡ None → MayServe p m.0 e k
      → Allows (Traced told p) n id m k (λ word. bit_or word 4) (turned told p e (step n k 4 0 none) m)
  turns_traced e live rests may =
      traces told p n id k m (λ word. bit_or word 4) (turned told p e (step n k 4 0 none) m)
      (λ word. cond (word / 4 % 2 == 0) (Some (Turn m.0.number e)) None)
      (turns_it told p n id k e m there live rests may) (turn_event told p id k there n e m rests may)

  pub retires_traced :
      (e : ℕ) → m.0.live ≡ true → m.0.turn ≡ None → m.0.leaving ≡ None → MayServe p m.0 e k
      → Allows (Traced told p) n id m k (λ word. (word + (2 ^ 64 - 16)) % 2 ^ 64) (retired p e (step n k 16 0 none) m)
  retires_traced e live rests stays may =
      traces told p n id k m (λ word. (word + (2 ^ 64 - 16)) % 2 ^ 64) (retired p e (step n k 16 0 none) m)
      (λ word. Some (Retire m.0.number e))
      (retires told p n id k e m there live rests stays may) (retire_event told p id k there n e m rests stays may)

-- the same of the steps that give a slot back
module _
    (told : Option Pictures) (p : PlanRecord) (n id k : ℕ) (v : View) (c : List (ℕ × Slot)) (there : k < length p.entries) where
  pub finishes_traced :
      (word : ℕ) (t : Tile) → v.live ≡ true → v.filling ≡ Some k → HoldsTile told p k t
      → word ≡ encode (Finished false false (readers_of p k))
      → Allows (Traced told p) n id (v, (k, Some t) ∷ c) k (λ found. word) (finished (step n k word 0 none) (v, (k, Some t) ∷ c))
  finishes_traced word t live fills_k value word_is =
      let m : At = (v, (k, Some t) ∷ c) in
      traces told p n id k m (λ found. word) (finished (step n k word 0 none) m) (λ found. Some (Finish v.number k))
      (finishes told p n id k word v t c there live fills_k value word_is)
      (finish_event told p id k there n word m fills_k word_is)

  pub gives_traced :
      (e : ℕ) (t : Tile) → v.turn ≡ Some e → source_at p e ≡ k → HoldsTile told p k t
      → Allows (Traced told p) n id (v, (k, Some t) ∷ c) k (λ word. bit_and word all_but_turn)
      (gave (step n k all_but_turn 0 none) (v, (k, Some t) ∷ c))
  gives_traced e t has source value =
      let m : At = (v, (k, Some t) ∷ c) in
      traces told p n id k m (λ word. bit_and word all_but_turn) (gave (step n k all_but_turn 0 none) m)
      (λ word. Some (Give v.number e))
      (gives_it told p n id k e v t c there has source value) (give_event told p id k there n e m has source)

  pub clears_traced :
      v.leaving ≡ Some k
      → Allows (Traced told p) n id (v, (k, None) ∷ c) k (λ word. bit_or word 8) (cleared (step n k 8 0 none) (v, (k, None) ∷ c))
  clears_traced has =
      let m : At = (v, (k, None) ∷ c) in
      traces told p n id k m (λ word. bit_or word 8) (cleared (step n k 8 0 none) m) (λ word. Some (Clear v.number k))
      (clears told p n id k v c there has) (clear_event told p id k there n m has)
