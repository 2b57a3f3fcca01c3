-- The lists of the chief alone are those of a seat
use Rattle.std.specs.Prelude.{◌≡◌, ◌<◌, ◌≤◌, ◌+◌, ℕ, zero, suc, Bool, true, false, ◌&&◌, ◌==◌, cond, List, [], ◌∷◌, length, refl}
use Rattle.std.proofs.Common.{sym, ap, ◌∙◌, arith, inl, inr}
use Rattle.std.proofs.lemmas.Bool.{cases_lt, cases_Bool, ne_eqb}
use Rattle.std.proofs.lemmas.List.{get_or_past}
use Rattle.std.proofs.lemmas.List.Sums.{sum_by-cons}
use Rattle.xs_plan.specs.declared.job.Reader.TheVariants.{Port, Root}
use Rattle.xs_plan.specs.Record.{PlanRecord}
use Rattle.xs_plan.specs.Reads.{reads_in}
use Rattle.xs_core.specs.declared.state.Phase.{Phase}
use Rattle.xs_core.specs.declared.state.Phase.TheVariants.{Idle, Claimed, Ready, Lost}
use Rattle.xs_core.specs.declared.state.ReadState.{ReadState}
use Rattle.xs_core.specs.declared.state.ReadState.TheVariants.{Waiting, InTurn, Served}
use Rattle.xs_core.specs.Counts.{one_if}
use Rattle.xs_core.specs.States.{World, phase_of, read_of, is_started, is_ready, is_lost, is_served, source_at, reader_at}
use Rattle.xs_core.specs.Views.{Signed, signed, DeskOk, times, entries, under}
use Rattle.xs_plain_desk.specs.Lists.{by_chief, chief, IsListed}

pub entries-by_chief : (k : ℕ) (items : List ℕ) → entries k (by_chief items) ≡ times k items
entries-by_chief k [] = refl
entries-by_chief k (x ∷ items) =
    sum_by-cons (λ (s : Signed). cond (s.item == k) 1 0) (signed 0 x) (by_chief items)
    ∙ ap (λ n. cond (x == k) 1 0 + n) (entries-by_chief k items) ∙ sym (sum_by-cons (λ n. cond (n == k) 1 0) x items)

pub under-by_chief : (k : ℕ) (items : List ℕ) → under 0 k (by_chief items) ≡ times k items
under-by_chief k [] = refl
under-by_chief k (x ∷ items) =
    sum_by-cons (λ (s : Signed). cond ((s.number == 0) && (s.item == k)) 1 0) (signed 0 x) (by_chief items)
    ∙ ap (λ n. cond (x == k) 1 0 + n) (under-by_chief k items) ∙ sym (sum_by-cons (λ n. cond (n == k) 1 0) x items)

pub under-nobody : (number k : ℕ) (items : List ℕ) → under (suc number) k (by_chief items) ≡ 0
under-nobody number k [] = refl
under-nobody number k (x ∷ items) =
    let cons = sum_by-cons (λ (s : Signed). cond ((s.number == suc number) && (s.item == k)) 1 0) (signed 0 x) (by_chief items) in
    let other = ap (λ b. cond {A = ℕ} (b && (x == k)) 1 0) (ne_eqb 0 (suc number) (λ same. absurd (omega (arith, same)))) in
    omega (arith, cons, other, under-nobody number k items)

-- a phase says at most one thing of what was begun
phases_apart : (s : Phase) → one_if (is_ready s) + one_if (is_lost s) ≤ one_if (is_started s)
phases_apart Idle = omega arith
phases_apart (Claimed seat) = omega arith
phases_apart (Ready seat) = omega arith
phases_apart Lost = omega arith

pub one_if-le : (b : Bool) → one_if b ≤ 1
one_if-le true = omega arith
one_if-le false = omega arith

pub one_if-true : (b : Bool) → 0 < one_if b → b ≡ true
one_if-true true some = refl
one_if-true false some = absurd (omega (arith, some))

-- what a state tells of an alias past the end is nothing
started_within : (p : PlanRecord) (w : World) → length w.phases ≡ length p.entries → (k : ℕ) → is_started (phase_of w k) ≡ true → k < length p.entries
started_within p w many k started =
    elim (cases_lt k (length p.entries)) [
      | inl within ↦ within
      | inr past ↦ absurd (not_idle (phase_of w k) (get_or_past w.phases k Idle (omega (arith, past, many))) started)
    ]
  where
    not_idle : (s : Phase) → s ≡ Idle → is_started s ≡ true → ⊥
    not_idle Idle idle is = cc
    not_idle (Claimed seat) idle is = cc
    not_idle (Ready seat) idle is = cc
    not_idle Lost idle is = cc

ready_started : (s : Phase) → is_ready s ≡ true → is_started s ≡ true
ready_started Idle is = cc
ready_started (Claimed seat) is = refl
ready_started (Ready seat) is = refl
ready_started Lost is = cc

served_within : (p : PlanRecord) (w : World) → length w.reads ≡ reads_in p → (e : ℕ) → is_served (read_of w e) ≡ true → e < reads_in p
served_within p w many e is =
    elim (cases_lt e (reads_in p)) [
      | inl within ↦ within
      | inr past ↦ absurd (not_waiting (read_of w e) (get_or_past w.reads e Waiting (omega (arith, past, many))) is)
    ]
  where
    not_waiting : (s : ReadState) → s ≡ Waiting → is_served s ≡ true → ⊥
    not_waiting Waiting waits is = cc
    not_waiting (InTurn seat) waits is = cc
    not_waiting Served waits is = cc

pub chief_ok :
    (p : PlanRecord) (w : World) (won made lost served : List ℕ) → IsListed p w won made lost served → DeskOk p (chief won made lost served)
chief_ok p w won made lost served h = record {
  backed = backed;
  backed_under = backed_under;
  claims_own = λ k claimed. omega (arith, claimed, entries-by_chief k won, under-by_chief k won);
  served_of_won = λ e alias port reader. omega (arith, entries-by_chief e served, entries-by_chief alias won, owned e alias port reader);
  served_under = served_under;
  served_by_chief = served_by_chief;
  knows_made = λ k some. omega (arith, some, entries-by_chief k made);
  knows_served = λ e some.
      let is = one_if-true (is_served (read_of w e)) (omega (arith, some, entries-by_chief e served, h.served_is e)) in
      let ready = ap one_if (h.ready e is) in
      omega (arith, ready, h.made_is (source_at p e));
  won_once = λ k. omega (arith, entries-by_chief k won, h.won_is k, one_if-le (is_started (phase_of w k)));
  apart = λ k. omega (arith, backed k, entries-by_chief k won, h.won_is k, one_if-le (is_started (phase_of w k)));
  served_once = λ e. omega (arith, entries-by_chief e served, h.served_is e, one_if-le (is_served (read_of w e)));
  solo_known = λ solo k known. omega (arith, known, entries-by_chief k made);
  won_within = λ k some. started_within p w h.phases_many k
      (one_if-true (is_started (phase_of w k)) (omega (arith, some, entries-by_chief k won, h.won_is k)));
  known_within = λ k known. started_within p w h.phases_many k
      (ready_started (phase_of w k) (one_if-true (is_ready (phase_of w k)) (omega (arith, known, h.made_is k))));
  served_within = λ e some. served_within p w h.reads_many e
      (one_if-true (is_served (read_of w e)) (omega (arith, some, entries-by_chief e served, h.served_is e)));
}
  where
    backed : (k : ℕ) → entries k (by_chief made) + entries k (by_chief lost) ≤ entries k (by_chief won)
    backed k = omega (
      arith,
      entries-by_chief k won,
      entries-by_chief k made,
      entries-by_chief k lost,
      h.won_is k,
      h.made_is k,
      h.lost_is k,
      phases_apart
          (phase_of w k),
    )

    backed_under : (number k : ℕ) → under number k (by_chief made) + under number k (by_chief lost) ≤ under number k (by_chief won)
    backed_under zero k = omega (
      arith,
      under-by_chief k won,
      under-by_chief k made,
      under-by_chief k lost,
      h.won_is k,
      h.made_is k,
      h.lost_is k,
      phases_apart (phase_of w k),
    )
    backed_under (suc number) k = omega (arith, under-nobody number k won, under-nobody number k made, under-nobody number k lost)

    owned : (e alias port : ℕ) → reader_at p e ≡ Port alias port → times e served ≤ times alias won
    owned e alias port reader = elim (cases_Bool (is_served (read_of w e))) [
      | inl is ↦ let started = ap one_if (h.owned e alias port reader is) in let one = ap one_if is in omega
          (arith, started, one, h.served_is e, h.won_is alias)
      | inr isnt ↦ let none = ap one_if isnt in omega (arith, none, h.served_is e)
    ]

    served_under : (number e alias port : ℕ) → reader_at p e ≡ Port alias port → under number e (by_chief served) ≤ under number alias (by_chief won)
    served_under zero e alias port reader = omega (arith, under-by_chief e served, under-by_chief alias won, owned e alias port reader)
    served_under (suc number) e alias port reader = omega (arith, under-nobody number e served)

    served_by_chief : (number e row tile : ℕ) → reader_at p e ≡ Root row tile → 0 < under number e (by_chief served) → number ≡ 0
    served_by_chief zero e row tile reader some = refl
    served_by_chief (suc number) e row tile reader some = absurd (omega (arith, some, under-nobody number e served))
