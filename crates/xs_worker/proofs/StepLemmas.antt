-- Lemmas on the steps of a worker
use Rattle.std.proofs.Common.{◌≡◌, ◌<◌, ◌≤◌, ◌+◌, ℕ, ◌==◌, ◌&&◌, Bool, true, false, cond, Some, List, [], ◌∷◌, ◌++◌, length, slice_get, refl, sym, ap, subst, ◌∙◌, inl, inr, arith}
use Rattle.std.proofs.lemmas.Bool.{cases_eq, cases_lt, eq-eqb, ne_eqb}
use Rattle.std.proofs.lemmas.List.Sums.{sum_by-cons, sum_by-append}
use Rattle.xs_plan.specs.Record.{PlanRecord, entry_at}
use Rattle.xs_plan.specs.Reads.{port_read_of}
use Rattle.xs_core.specs.Counts.{one_if}
use Rattle.xs_core.proofs.CountLemmas.{how_many-alike, how_many-but_one}
use Rattle.xs_core.specs.States.{source_at}
use Rattle.xs_core.specs.Views.{Signed, signed, Met, FoundBusy, FoundLost, FoundInTurn, Meeting, meeting, DeskView, DeskOk, times, entries, under, Knows, HasClaimed, Mine, IsMine, MayRead}
use Rattle.xs_core.specs.Calls.{Stays, Meets}
use Rattle.xs_worker.specs.declared.step.Step.{Step}
use Rattle.xs_worker.specs.declared.step.Step.TheVariants as step
use Rattle.xs_worker.specs.Piles.{top_of}
use Rattle.xs_worker.specs.Reading.{TellsReads}
use Rattle.xs_worker.specs.Claims.{Fits, Grew, meetings, is_busy, is_lost, WasBusy, WasLost, unwon, work_left}
use Rattle.xs_worker.specs.Steps.{Went, StepTells, WasInTurn, WasTaken}
use Rattle.xs_worker.proofs.Lists.{times-same, times-other, entries-grown}
use Rattle.xs_worker.proofs.GrewLemmas.{grew_then}

-- ---- two steps

pub went_then :
    (p : PlanRecord) (targets stack : List ℕ) (v : DeskView) (b mid : List ℕ) (w : DeskView) (c new : List ℕ) (x : DeskView) (d more : List ℕ)
    → Went p targets stack v b mid w c [] → Went p targets mid w c new x d more → Went p targets stack v b new x d more
went_then p targets stack v b mid w c new x d more first second =
    record { grew = grew_then p targets v w x b c d more [] first.grew second.grew; fits = second.fits }

meetings-append : (test : Met → Bool) (k : ℕ) (xs ys : List Meeting) → meetings test k (xs ++ ys) ≡ meetings test k xs + meetings test k ys
meetings-append test k xs ys = sum_by-append (λ (m : Meeting). cond ((m.alias == k) && test m.met) 1 0) xs ys

pub meetings-grow : (test : Met → Bool) (k : ℕ) (old new more : List Meeting) → new ≡ old ++ more → meetings test k old ≤ meetings test k new
meetings-grow test k old new more is =
    let all = ap (λ l. meetings test k l) is ∙ meetings-append test k old more in
    omega (arith, all)

pub busy_then :
    (p : PlanRecord) (targets : List ℕ) (v w x : DeskView) (b c : List ℕ) (k : ℕ) → Grew p targets v w b c [] [] → WasBusy k w x
    → WasBusy k v x
busy_then p targets v w x b c k g busy = record {
  shared = sym g.adds.solo ∙ busy.shared;
  met = let more = meetings-grow is_busy k v.met w.met g.adds.more g.adds.met in omega (arith, more, busy.met);
  others = busy.others;
}

pub lost_then :
    (p : PlanRecord) (targets : List ℕ) (v w x : DeskView) (b c : List ℕ) (k : ℕ) → Grew p targets v w b c [] [] → WasLost k w x
    → WasLost k v x
lost_then p targets v w x b c k g lost = record {
  met = λ shared.
      let more = meetings-grow is_lost k v.met w.met g.adds.more g.adds.met in
      let less = lost.met (g.adds.solo ∙ shared) in
      omega (arith, more, less);
  lost = λ alone.
      let some = lost.lost (g.adds.solo ∙ alone) in
      let grown = entries-grown k v.number v.lost w.lost [] g.adds.lost in
      omega (arith, some, grown);
}

pub step_then :
    (p : PlanRecord) (targets stack : List ℕ) (v : DeskView) (b mid : List ℕ) (w : DeskView) (c : List ℕ) (s : Step) (new : List ℕ)
    (x : DeskView) (d : List ℕ) → Went p targets stack v b mid w c [] → work_left p mid w ≤ work_left p stack v
    → StepTells p targets mid w c s new x d → StepTells p targets stack v b s new x d
step_then p targets stack v b mid w c step.Moved new x d first less tells =
    (went_then p targets stack v b mid w c new x d [] first tells.0, omega (arith, less, tells.1))
step_then p targets stack v b mid w c step.Ready new x d first less tells =
    (went_then p targets stack v b mid w c new x d [] first tells.0, omega (arith, less, tells.1))
step_then p targets stack v b mid w c (step.Blocked k) new x d first less tells =
    (went_then p targets stack v b mid w c new x d [] first tells.0, busy_then p targets v w x b c k first.grew tells.1)
step_then p targets stack v b mid w c (step.Lost k) new x d first less tells =
    (went_then p targets stack v b mid w c new x d [] first tells.0, lost_then p targets v w x b c k first.grew tells.1)
step_then p targets stack v b mid w c step.Short new x d first less tells = record {
  more = tells.more;
  one = tells.one;
  claimed = tells.claimed;
  went = went_then p targets stack v b mid w c new x d tells.more first tells.went;
}

-- ---- how much is left

unwon-same : (p : PlanRecord) (v w : DeskView) → w.won ≡ v.won ++ [] → unwon p w ≡ unwon p v
unwon-same p v w same =
    how_many-alike (length p.entries) (λ k. entries k w.won == 0) (λ k. entries k v.won == 0)
    (λ k there. ap (λ n. n == 0) (entries-grown k v.number v.won w.won [] same ∙ omega arith))

pub left-same : (p : PlanRecord) (stack : List ℕ) (v w : DeskView) → w.won ≡ v.won ++ [] → work_left p stack w ≤ work_left p stack v
left-same p stack v w same = let e = unwon-same p v w same in omega (arith, e)

pub left-made : (p : PlanRecord) (stack : List ℕ) (v w : DeskView) (k : ℕ) → w.won ≡ v.won ++ [] → work_left p stack w < work_left p (k ∷ stack) v
left-made p stack v w k same = let e = unwon-same p v w same in omega (arith, e)

pub left-won :
    (p : PlanRecord) (stack : List ℕ) (v w : DeskView) (k : ℕ) → w.won ≡ v.won ++ signed v.number k ∷ [] → entries k v.won ≡ 0
    → k < length p.entries → work_left p (k ∷ stack) w < work_left p stack v
left-won p stack v w k more idle there =
    let grown = λ (j : ℕ). entries-grown j v.number v.won w.won (k ∷ []) more in
    let here : entries k w.won ≡ 1 = omega (arith, entries-grown k v.number v.won w.won (k ∷ []) more, times-same k [], idle) in
    let one = how_many-but_one (length p.entries) k (λ j. entries j v.won == 0) (λ j. entries j w.won == 0) there
    (λ j within differ. ap (λ n. n == 0) (omega
    (arith, entries-grown j v.number v.won w.won (k ∷ []) more, times-other j k [] (λ same. differ (sym same))))) in
    let was = ap one_if (eq-eqb (entries k v.won) 0 idle) in
    let is = ap one_if (ne_eqb (entries k w.won) 0 (λ none. omega (arith, none, here))) in
    omega (arith, one, was, is)

-- ---- what a call met

meetings-push : (test : Met → Bool) (k : ℕ) (met : Met) (xs ys : List Meeting) → test met ≡ true → ys ≡ xs ++ meeting k met ∷ []
    → meetings test k xs < meetings test k ys
meetings-push test k met xs ys passes is =
    let all = ap (λ l. meetings test k l) is ∙ meetings-append test k xs (meeting k met ∷ []) in
    let one = sum_by-cons (λ (m : Meeting). cond ((m.alias == k) && test m.met) 1 0) (meeting k met) [] in
    let yes : cond {A = ℕ} ((k == k) && test met) 1 0 ≡ 1 = passed (k == k) (test met) (eq-eqb k k refl) passes in
    omega (arith, all, one, yes)
  where
    passed : (a b : Bool) → a ≡ true → b ≡ true → cond {A = ℕ} (a && b) 1 0 ≡ 1
    passed a b is_a is_b = ap (λ c. cond {A = ℕ} (c && b) 1 0) is_a ∙ ap (λ c. cond {A = ℕ} (true && c) 1 0) is_b

-- an alias before all that are claimed is not claimed
pub not_claimed :
    (p : PlanRecord) (targets stack : List ℕ) (v w : DeskView) (k : ℕ) → Fits p targets stack v → Stays v w
    → ((j : ℕ) → 0 < times j stack → k < j) → (entries k w.won ≡ entries k w.made + entries k w.lost) × (times k stack ≡ 0)
not_claimed p targets stack v w k fits stays below =
    let none : times k stack ≡ 0 = elim (cases_lt 0 (times k stack)) [
      | inl some ↦ let less = below k some in absurd (omega (arith, less))
      | inr none ↦ omega (arith, none)
    ] in (
      omega (
        arith,
        none,
        fits.claims k,
        entries-grown k v.number v.won w.won [] stays.won,
        entries-grown k v.number v.made w.made [] stays.made,
        entries-grown k v.number v.lost w.lost [] stays.lost,
      ),
      none,
    )

pub both_solo : (b : Bool) → (b ≡ true → ⊥) → b ≡ false
both_solo true not = absurd (not refl)
both_solo false not = refl

pub busy_claim :
    (p : PlanRecord) (targets stack : List ℕ) (v w : DeskView) (k : ℕ) → Fits p targets stack v → Stays v w
    → Meets v w k FoundBusy → (v.solo ≡ true → HasClaimed v k) → ((j : ℕ) → 0 < times j stack → k < j) → WasBusy k v w
busy_claim p targets stack v w k fits stays meets alone below =
    let free = not_claimed p targets stack v w k fits stays below in
    let shared = both_solo v.solo (λ solo. let claimed = alone solo in omega (arith, claimed, fits.claims k, free.1)) in
    record { shared = shared; met = meetings-push is_busy k FoundBusy v.met w.met refl (meets shared); others = free.0 }

pub busy_turn :
    (p : PlanRecord) (targets stack : List ℕ) (v w : DeskView) (k : ℕ) → Fits p targets stack v → WasTaken k v w
    → ((j : ℕ) → 0 < times j stack → k < j) → WasBusy k v w
busy_turn p targets stack v w k fits turn below =
    let free = not_claimed p targets stack v w k fits turn.stays below in
    record { shared = turn.shared; met = turn.met; others = free.0 }

pub taken_then : (v a w : DeskView) (i : ℕ) → Stays v a → WasInTurn i a w → Stays v w → WasTaken i v w
taken_then v a w i stays turn both = record {
  stays = both;
  shared = sym stays.solo ∙ turn.2;
  met =
      let more = meetings-grow is_busy i v.met a.met stays.more stays.met in
      let one = meetings-push is_busy i FoundInTurn a.met w.met refl (turn.1 turn.2) in
      omega (arith, more, one);
}

pub lost_claim : (v w : DeskView) (k : ℕ) → Meets v w k FoundLost → (v.solo ≡ true → 0 < entries k v.lost) → WasLost k v w
lost_claim v w k meets alone = record { met = λ shared. meetings-push is_lost k FoundLost v.met w.met refl (meets shared); lost = alone }

-- ---- what may be read

under-le : (number k : ℕ) (list : List Signed) → under number k list ≤ entries k list
under-le number k [] = omega arith
under-le number k (s ∷ list) =
    let a = sum_by-cons (λ (s : Signed). cond ((s.number == number) && (s.item == k)) 1 0) s list in
    let b = sum_by-cons (λ (s : Signed). cond (s.item == k) 1 0) s list in
    let one = both (s.number == number) (s.item == k) in
    omega (arith, a, b, one, under-le number k list)
  where
    both : (a b : Bool) → cond {A = ℕ} (a && b) 1 0 ≤ cond b 1 0
    both true b = omega arith
    both false true = omega arith
    both false false = omega arith

claimed_mine : (p : PlanRecord) (v : DeskView) (k : ℕ) → DeskOk p v → HasClaimed v k → Mine v k
claimed_mine p v k ok claimed = omega (arith, ok.claims_own k claimed, under-le v.number k v.lost, ok.won_once k, claimed)

-- the reads at ports of the last claimed alias may be served, once its inputs are known to be ready
pub may_read :
    (p : PlanRecord) (targets stack : List ℕ) (v : DeskView) (k : ℕ) → Fits p targets stack v → top_of stack ≡ Some k → TellsReads p
    → DeskOk p v → ((i : ℕ) → slice_get (entry_at p.entries k).inputs 0 ≡ Some i → Knows v i)
    → ((i : ℕ) → slice_get (entry_at p.entries k).inputs 1 ≡ Some i → Knows v i) → (port e : ℕ) → port_read_of p k port ≡ Some e
    → MayRead p v e
may_read p targets [] v k fits top tells ok first second port e is = absurd (cc)
may_read p targets (x ∷ stack) v k fits top tells ok first second port e is =
    let same : x ≡ k = cc in
    let on : 0 < times k (x ∷ stack) = subst (λ i. 0 < times i (x ∷ stack)) same (omega (arith, times-same x stack)) in
    let there : k < length p.entries = omega (arith, same, fits.chain.1) in
    let read = tells.read k port e there is in
    record {
      within = read.within;
      mine = subst (λ r. IsMine v r) (sym read.reader) (claimed_mine p v k ok (omega (arith, fits.claims k, on)));
      unserved = fits.unserved k port e on is;
      known = elim (cases_eq port 0) [
        | inl zeroth ↦ first (source_at p e) (subst (λ n. slice_get (entry_at p.entries k).inputs n ≡ Some (source_at p e)) zeroth read.input)
        | inr differ ↦
            let one : port ≡ 1 = omega (arith, read.port_is, differ) in
            second (source_at p e) (subst (λ n. slice_get (entry_at p.entries k).inputs n ≡ Some (source_at p e)) one read.input)
      ];
    }
