-- A look that only recalls what the words and the slots tell of any seat
use Rattle.std.proofs.Common.{◌≡◌, ◌<◌, ◌+◌, ℕ, Option, None, length, get_or, refl, sym, ap, subst, ◌∙◌, inl, inr, arith, eq-zero-or-pos}
use Rattle.std.proofs.lemmas.Bool.{cases_lt}
use mathlib.Core.Option.{some, none, some-injective}
use lib.ListN.{get_elem?}
use Rattle.atomic_table.specs.Table.{State, step, keeps, Allows}
use Rattle.xs_pixel.specs.Picture.{Pictures}
use Rattle.xs_plan.specs.Record.{PlanRecord}
use Rattle.xs_word_desk.specs.declared.view.View.{View}
use Rattle.xs_word_desk.specs.Seen.{wins, makes, knows}
use Rattle.xs_word_desk.specs.Rule.{Slot, Holds}
use Rattle.xs_word_desk.specs.Plays.{At, Recalls, recalled}
use Rattle.xs_word_desk.specs.Own.{Own}
use Rattle.xs_word_desk.specs.Shown.{shown, after_step}
use Rattle.xs_word_desk.specs.Traced.{Traced, IsEvent}
use Rattle.xs_word_desk.proofs.SumLemmas.{term_le}
use Rattle.xs_word_desk.proofs.SeatSteps.{chief_first}
use Rattle.xs_word_desk.proofs.ClaimSteps.{alone_sum, unmoved, won_in-most}
use Rattle.xs_word_desk.proofs.Lifts.{quiet}
use Rattle.xs_word_desk.proofs.Traces.{traces}

module _ (told : Option Pictures) (p : PlanRecord) where
  recalls_of : (s : State Slot View) (id : ℕ) (v : View) → Holds told p s → get_elem? s.views id ≡ some v → Recalls v
  recalls_of s id v holds me = record {
    once = λ k. elim (cases_lt k (length p.entries)) [
      | inl there ↦
          let part = holds.parts k there in
          omega (arith, term_le (wins k) s.views id v me, part.agrees.won, won_in-most told p part.shape)
      | inr past ↦ elim (eq-zero-or-pos (wins k v)) [
        | inl unwon ↦ omega (arith, unwon)
        | inr won ↦ let there = (holds.views id v me).within k (omega (arith, won)) in absurd (omega (arith, there, past))
      ]
    ];
    alone_made = λ solo k known.
        let part = holds.parts k ((holds.views id v me).within k (omega (arith, known))) in
        let made = part.agrees.known (omega (arith, known, term_le (knows k) s.views id v me)) in
        let mine = alone_sum told p s id v (makes k) holds me solo (λ u ok joined. omega (arith, ok.gone joined k, ok.backed k)) in
        omega (arith, mine, part.agrees.made, made);
    counted = λ live number.
        let first = chief_first told p s.views id v holds.seats me live number in
        let is : holds.seats.chief ≡ v =
        some-injective holds.seats.chief v (sym holds.seats.first ∙ ap (get_elem? s.views) (sym first) ∙ me) in
        subst (λ (c : View). length c.apart + c.joined + 1 ≡ c.next) is holds.seats.counted;
  }

  recalls_it :
      (n id k : ℕ) (m : At) → k < length p.entries
      → Allows (Holds told p) n id m k (λ word. word) (recalled (step n k 0 0 none) m)
  recalls_it n id k m there s holds deep me fits = (
    m.0,
    keeps,
    tt,
    unmoved told p s id k m.1 m.0 m.0 holds me there (holds.views id m.0 me)
        (record { live = refl; number = refl; next = refl; apart = refl; joined = refl })
        (λ j. record {
          won = refl;
          made = refl;
          lost = refl;
          known = refl;
          filling = refl;
          leaving = refl;
          turn = refl;
          served = λ e is. refl;
        }),
    (refl, recalls_of s id m.0 holds me),
  )

  -- it is no event
  recall_event :
      (n id k : ℕ) (m : At) → k < length p.entries
      → IsEvent told p id m k (λ word. word) (recalled (step n k 0 0 none) m) (λ word. None)
  recall_event n id k m there s holds own me fits w c homes then =
      subst (λ (u : View). Own p u × (shown p (after_step s k (get_or s.words k 0) id u homes) ≡ shown p s))
      (sym (ap (λ (x : At). x.0) then.0)) (
        own,
        quiet told p id k there s (get_or s.words k 0) m.0 m.0 homes holds me refl
            (record { number = refl; won = refl; served = refl; turn = refl; leaving = refl }),
      )

  pub recalls_traced :
      (n id k : ℕ) (m : At) → k < length p.entries
      → Allows (Traced told p) n id m k (λ word. word) (recalled (step n k 0 0 none) m)
  recalls_traced n id k m there =
      traces told p n id k m (λ word. word) (recalled (step n k 0 0 none) m) (λ word. None) (recalls_it n id k m there)
      (recall_event n id k m there)
