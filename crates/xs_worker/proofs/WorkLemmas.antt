-- Lemmas on what a worker does at an alias
use Rattle.std.proofs.Common.{◌≡◌, ◌<◌, ◌≤◌, ℕ, ◌==◌, cond, Option, Some, None, List, [], ◌∷◌, ◌++◌, length, slice_get, refl, sym, ap, subst, ◌∙◌, inl, inr, arith}
use Rattle.std.proofs.lemmas.Bool.{cases_eq, cases_lt}
use Rattle.std.proofs.lemmas.List.{append-nil}
use Rattle.std.proofs.lemmas.List.Sums.{sum_by-append}
use Rattle.xs_plan.specs.declared.job.Reader.{Reader}
use Rattle.xs_plan.specs.declared.job.Reader.TheVariants.{Port, Root}
use Rattle.xs_plan.specs.Record.{PlanRecord, entry_at}
use Rattle.xs_plan.specs.Reads.{port_read_of}
use Rattle.xs_core.specs.declared.answer.Claim.TheVariants as claim
use Rattle.xs_core.specs.States.{source_at, reader_at}
use Rattle.xs_core.specs.Views.{Signed, signed, DeskView, DeskOk, times, entries, under, Knows, HasClaimed, IsMine, MayRead}
use Rattle.xs_core.specs.Calls.{Adds, Stays, ClaimTells}
use Rattle.xs_worker.specs.declared.step.Step.TheVariants as step
use Rattle.xs_worker.specs.Piles.{top_of, below_top}
use Rattle.xs_worker.specs.Reading.{TellsReads, listed, port_reads, IsReached}
use Rattle.xs_worker.specs.Claims.{tagged, IsChain, Fits, AreDrawn, WasBusy, WasLost, work_left}
use Rattle.xs_rawfile.specs.Held.{Held}
use Rattle.xs_worker.specs.declared.step.Step.{Step}
use Rattle.xs_worker.specs.Steps.{Went, WentShort, StepTells, WasInTurn, WasTaken}
use Rattle.xs_worker.proofs.Lists.{times-same, times-other, times-found, entries-grown, entries-tagged}
use Rattle.xs_worker.proofs.ReadLemmas.{reached_then}
use Rattle.xs_worker.proofs.GrewLemmas.{adds_then, stays_then, went_nowhere, went_won, went_made}
use Rattle.xs_worker.proofs.StepLemmas.{step_then, left-same, left-made, left-won, busy_claim, busy_turn, taken_then, lost_claim}

-- ---- the last claimed alias

pub top_below : (p : PlanRecord) (targets stack : List ℕ) (k : ℕ) → IsChain p targets stack → top_of stack ≡ Some k
    → IsReached p targets k × (k < length p.entries) × (0 < times k stack) × ((j : ℕ) → 0 < times j stack → k ≤ j)
top_below p targets [] k chain top = absurd (cc)
top_below p targets (x ∷ stack) k chain top =
    let same : x ≡ k = cc in
    subst (λ i. IsReached p targets i × (i < length p.entries) × (0 < times i (x ∷ stack)) × ((j : ℕ) → 0 < times j (x ∷ stack) → i ≤ j)) same
    (chain.0, chain.1, omega (arith, times-same x stack), least)
  where
    least : (j : ℕ) → 0 < times j (x ∷ stack) → x ≤ j
    least j some = elim (times-found j x stack some) [
      | inl is ↦ omega (arith, is)
      | inr before ↦ let less = chain.2 j before in omega (arith, less)
    ]

-- an input of the last claimed alias is reached, is of the plan, and stands before all that are claimed
pub input_fits :
    (p : PlanRecord) (targets stack : List ℕ) (v : DeskView) (k port i : ℕ) → Fits p targets stack v → TellsReads p → top_of stack ≡ Some k
    → slice_get (entry_at p.entries k).inputs port ≡ Some i
    → IsReached p targets i × (i < length p.entries) × ((j : ℕ) → 0 < times j stack → i < j)
input_fits p targets stack v k port i fits tells top is =
    let at = top_below p targets stack k fits.chain top in
    let numbered = tells.input k port i at.1 is in
    let read = tells.read k port numbered.0 at.1 numbered.1 in (
      reached_then p targets k port i at.0 is,
      omega (arith, read.earlier, numbered.2, at.1),
      λ j some. omega (arith, read.earlier, numbered.2, at.3 j some),
    )

pub top_claimed : (p : PlanRecord) (targets stack : List ℕ) (v : DeskView) (k : ℕ) → Fits p targets stack v → top_of stack ≡ Some k → HasClaimed v k
top_claimed p targets stack v k fits top = let at = top_below p targets stack k fits.chain top in omega (arith, at.2, fits.claims k)

-- ---- a claim

pub short_nowhere :
    (p : PlanRecord) (targets stack new : List ℕ) (v w : DeskView) (b c more : List ℕ) → Fits p targets stack v → new ≡ stack → Stays v w
    → c ≡ b ++ more → length more ≤ 1 → ((j : ℕ) → 0 < times j more → 0 < times j stack) → WentShort p targets stack v b new w c
short_nowhere p targets stack new v w b c more fits same stays bench one claimed =
    subst (λ s. WentShort p targets stack v b s w c) (sym same)
    (record { more = more; one = one; claimed = claimed; went = went_nowhere p targets stack v w b c more fits stays bench })

pub fetched_won :
    (p : PlanRecord) (targets stack new : List ℕ) (v w : DeskView) (b : List ℕ) (k : ℕ) → Fits p targets stack v → TellsReads p → DeskOk p v
    → IsReached p targets k → k < length p.entries → ((j : ℕ) → 0 < times j stack → k < j) → ClaimTells v k claim.Won w → new ≡ k ∷ stack
    → Went p targets stack v b new w b [] × (work_left p new w < work_left p stack v)
fetched_won p targets stack new v w b k fits tells ok reached there below told same =
    subst (λ s. Went p targets stack v b s w b [] × (work_left p s w < work_left p stack v)) (sym same)
    (went_won p targets stack v w b k fits tells ok reached there below told.0 told.1 told.2, left-won p stack v w k told.0.won told.1 there)

pub fetched_busy :
    (p : PlanRecord) (targets stack new : List ℕ) (v w : DeskView) (b : List ℕ) (k : ℕ) → Fits p targets stack v
    → ((j : ℕ) → 0 < times j stack → k < j) → ClaimTells v k claim.Busy w → new ≡ stack
    → Went p targets stack v b new w b [] × WasBusy k v w
fetched_busy p targets stack new v w b k fits below told same =
    subst (λ s. Went p targets stack v b s w b [] × WasBusy k v w) (sym same)
    (went_nowhere p targets stack v w b b [] fits told.0 (sym (append-nil b)), busy_claim p targets stack v w k fits told.0 told.1 told.2 below)

pub fetched_ready :
    (p : PlanRecord) (targets stack new : List ℕ) (v w : DeskView) (b : List ℕ) → Fits p targets stack v → Stays v w → new ≡ stack
    → Went p targets stack v b new w b [] × (work_left p new w ≤ work_left p stack v)
fetched_ready p targets stack new v w b fits stays same =
    subst (λ s. Went p targets stack v b s w b [] × (work_left p s w ≤ work_left p stack v)) (sym same)
    (went_nowhere p targets stack v w b b [] fits stays (sym (append-nil b)), left-same p stack v w stays.won)

pub fetched_lost :
    (p : PlanRecord) (targets stack new : List ℕ) (v w : DeskView) (b : List ℕ) (k : ℕ) → Fits p targets stack v
    → ClaimTells v k claim.Lost w → new ≡ stack → Went p targets stack v b new w b [] × WasLost k v w
fetched_lost p targets stack new v w b k fits told same =
    subst (λ s. Went p targets stack v b s w b [] × WasLost k v w) (sym same)
    (went_nowhere p targets stack v w b b [] fits told.0 (sym (append-nil b)), lost_claim v w k told.1 told.2)

-- ---- reads

pub may_after :
    (p : PlanRecord) (v w : DeskView) (made served : List Signed) (e : ℕ) → Adds v w [] made [] served → entries e served ≡ 0 → MayRead p v e
    → MayRead p w e
may_after p v w made served e adds none may = record {
  within = may.within;
  mine = mine (reader_at p e) may.mine;
  unserved =
      let all = ap (λ l. entries e l) adds.served ∙ sum_by-append (λ (s : Signed). cond (s.item == e) 1 0) v.served served in
      omega (arith, all, none, may.unserved);
  known = adds.knows (source_at p e) may.known;
}
  where
    mine : (r : Reader) → IsMine v r → IsMine w r
    mine (Port alias port) its =
        let lost = ap (λ n. under n alias w.lost) adds.number ∙ ap (λ l. under v.number alias l) (adds.lost ∙ append-nil v.lost) in
        let won = ap (λ n. under n alias w.won) adds.number ∙ ap (λ l. under v.number alias l) (adds.won ∙ append-nil v.won) in
        omega (arith, lost, won, its)
    mine (Root row tile) its = adds.number ∙ its

abbrev port_of : Reader → ℕ
port_of (Port alias port) = port
port_of (Root row tile) = 0

port_in : (a b : Reader) → a ≡ b → port_of a ≡ port_of b
port_in a b is = ap port_of is

ports_differ : (k : ℕ) → Port k 0 ≡ Port k 1 → ⊥
ports_differ k is = let zeroth = port_in (Port k 0) (Port k 1) is in omega (arith, zeroth)

-- the read of an alias at port 1 is not that at port 0
pub apart_reads : (p : PlanRecord) (number k e : ℕ) → TellsReads p → k < length p.entries → port_read_of p k 1 ≡ Some e
    → entries e (tagged number (listed (port_read_of p k 0))) ≡ 0
apart_reads p number k e tells there is = entries-tagged number e (listed (port_read_of p k 0)) ∙ of (port_read_of p k 0) refl
  where
    of : (o : Option ℕ) → port_read_of p k 0 ≡ o → times e (listed o) ≡ 0
    of None first = refl
    of (Some x) first = elim (cases_eq x e) [
      | inl same ↦
          let zeroth = tells.read k 0 e there (first ∙ ap Some same) in
          let second = tells.read k 1 e there is in
          absurd (ports_differ k (sym zeroth.reader ∙ second.reader))
      | inr differ ↦ omega (arith, times-other e x [] differ)
    ]

-- the tile is put, and the reads at both ports are served
pub concluded :
    (v a b w : DeskView) (k : ℕ) (first second : List ℕ) → Adds v a [] (signed v.number k ∷ []) [] []
    → Adds a b [] [] [] (tagged a.number first) → Adds b w [] [] [] (tagged b.number second)
    → Adds v w [] (signed v.number k ∷ []) [] (tagged v.number (first ++ second))
concluded v a b w k first second one two three =
    adds_then v b w [] (k ∷ []) [] first [] [] [] second (adds_then v a b [] (k ∷ []) [] [] [] [] [] first one two) three

-- ---- tiles

-- a turn after a call that met nothing in its lists
pub made_turn :
    (p : PlanRecord) (targets stack : List ℕ) (v w : DeskView) (b c : List ℕ) (k i : ℕ) → Fits p targets stack v → top_of stack ≡ Some k
    → WasTaken i v w → i < k → c ≡ b → Went p targets stack v b stack w c [] × WasBusy i v w
made_turn p targets stack v w b c k i fits top turn less same =
    let at = top_below p targets stack k fits.chain top in (
      went_nowhere p targets stack v w b c [] fits turn.stays (same ∙ sym (append-nil b)),
      busy_turn p targets stack v w i fits turn (λ j some. omega (arith, less, at.3 j some)),
    )

pub made_done :
    (p : PlanRecord) (targets stack new : List ℕ) (v a w : DeskView) (b c : List ℕ) (k : ℕ) → Fits p targets stack v → top_of stack ≡ Some k
    → TellsReads p → Stays v a → Adds a w [] (signed a.number k ∷ []) [] (tagged a.number (port_reads p k)) → c ≡ b ++ k ∷ []
    → new ≡ below_top stack → Went p targets stack v b new w c [] × (work_left p new w < work_left p stack v)
made_done p targets [] new v a w b c k fits top tells stays adds bench same = absurd (cc)
made_done p targets (x ∷ stack) new v a w b c k fits top tells stays adds bench same =
    let is : x ≡ k = cc in
    let first = went_nowhere p targets (x ∷ stack) v a b b [] fits stays (sym (append-nil b)) in
    let second = went_made p targets stack a w b c x first.fits tells
    (subst (λ i. Adds a w [] (signed a.number i ∷ []) [] (tagged a.number (port_reads p i))) (sym is) adds)
    (subst (λ i. c ≡ b ++ i ∷ []) (sym is) bench) in
    subst (λ s. Went p targets (x ∷ stack) v b s w c [] × (work_left p s w < work_left p (x ∷ stack) v)) (sym same)
    (step_then p targets (x ∷ stack) v b (x ∷ stack) a b step.Moved stack w c first (left-same p (x ∷ stack) v a stays.won)
    (second, left-made p stack a w x adds.won))

pub turn_then : (v a w : DeskView) (i : ℕ) → Stays v a → WasInTurn i a w → WasTaken i v w
turn_then v a w i stays turn = taken_then v a w i stays turn (stays_then v a w stays turn.0)

-- ---- a step and another

pub drawn_then :
    (p : PlanRecord) (targets stack new : List ℕ) (v w : DeskView) (b c more : List ℕ) (h : Held) → AreDrawn p targets stack v h
    → Fits p targets stack v → Went p targets stack v b new w c more → AreDrawn p targets new w h
drawn_then p targets stack new v w b c more h drawn fits went = λ k reached still. drawn k reached (needed k still)
  where
    needed : (k : ℕ) → (Knows w k → 0 < times k new) → Knows v k → 0 < times k stack
    needed k still known =
        let on = still (went.grew.adds.knows k known) in
        elim (cases_lt 0 (times k stack)) [
          | inl some ↦ some
          | inr none ↦
              let a = went.grew.adds in
              let won = entries-grown k v.number v.won w.won went.grew.won a.won in
              let made = entries-grown k v.number v.made w.made went.grew.made a.made in
              let lost = entries-grown k v.number v.lost w.lost [] a.lost in
              let more_won : 0 < times k went.grew.won = omega (arith, on, none, won, made, lost, fits.claims k, went.fits.claims k) in
              let unknown = went.grew.reached k more_won in
              absurd (omega (arith, known, unknown.1))
        ]

-- what a step that found its input ready leaves to the next one
pub record Passed (p : PlanRecord) (targets stack : List ℕ) (v : DeskView) (h : Held) (others new : List ℕ) (w : DeskView) : Type 0 where
  pub fits : Fits p others new w
  pub drawn : AreDrawn p others new w h

pub passed :
    (p : PlanRecord) (targets stack others new : List ℕ) (v w : DeskView) (b c : List ℕ) (h : Held) → AreDrawn p targets stack v h
    → Fits p targets stack v → others ≡ targets → StepTells p targets stack v b step.Ready new w c → Passed p targets stack v h others new w
passed p targets stack others new v w b c h drawn fits same tells =
    subst (λ ts. Passed p targets stack v h ts new w) (sym same)
    (record { fits = tells.0.fits; drawn = drawn_then p targets stack new v w b c [] h drawn fits tells.0 })

pub step_after :
    (p : PlanRecord) (targets stack others : List ℕ) (v : DeskView) (b mid : List ℕ) (w : DeskView) (c : List ℕ) (s : Step) (new : List ℕ)
    (x : DeskView) (d : List ℕ) → others ≡ targets → StepTells p targets stack v b step.Ready mid w c → StepTells p others mid w c s new x d
    → StepTells p targets stack v b s new x d
step_after p targets stack others v b mid w c s new x d same first second =
    step_then p targets stack v b mid w c s new x d first.0 first.1 (subst (λ ts. StepTells p ts mid w c s new x d) same second)

-- what was known stays known
pub step_knows :
    (p : PlanRecord) (targets stack : List ℕ) (v : DeskView) (b : List ℕ) (s : Step) (new : List ℕ) (w : DeskView) (c : List ℕ)
    → StepTells p targets stack v b s new w c → (k : ℕ) → Knows v k → Knows w k
step_knows p targets stack v b step.Moved new w c told = told.0.grew.adds.knows
step_knows p targets stack v b step.Ready new w c told = told.0.grew.adds.knows
step_knows p targets stack v b (step.Blocked k) new w c told = told.0.grew.adds.knows
step_knows p targets stack v b (step.Lost k) new w c told = told.0.grew.adds.knows
step_knows p targets stack v b step.Short new w c told = told.went.grew.adds.knows
