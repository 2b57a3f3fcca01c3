-- What runs keep, and how often each thing happens in them
use Rattle.std.proofs.Common.{◌≡◌, ◌<◌, ◌+◌, ℕ, Bool, true, false, cond, ◌&&◌, ◌==◌, List, [], ◌∷◌, All, length, get_or, set, count_by, refl, sym, ap, ◌∙◌, inl, inr, arith, get_or-set_same, get_or-set_other}
use Rattle.std.proofs.lemmas.Bool.{cases_eq, cases_Bool, and_right, cond_both, eqb-true, eqb-false, eq-eqb, ne_eqb}
use Rattle.std.proofs.lemmas.List.{length-set, length-replicate}
use Rattle.std.proofs.lemmas.List.Elements.{All-get_or}
use Rattle.std.proofs.lemmas.List.Sums.{sum_by-cons}
use Rattle.xs_plan.specs.Record.{PlanRecord}
use Rattle.xs_plan.specs.Reads.{sources, reads_in}
use Rattle.xs_plan.specs.Valid.{IsPlan}
use Rattle.xs_core.specs.declared.event.Event.{Event}
use Rattle.xs_core.specs.declared.event.Event.TheVariants.{Claim, Finish, Abandon, Turn, Give, Retire, Clear}
use Rattle.xs_core.specs.declared.state.Phase.{Phase}
use Rattle.xs_core.specs.declared.state.Phase.TheVariants.{Idle, Claimed, Ready, Lost}
use Rattle.xs_core.specs.declared.state.ReadState.{ReadState}
use Rattle.xs_core.specs.declared.state.ReadState.TheVariants.{Waiting, InTurn, Served}
use Rattle.xs_core.specs.declared.state.TileState.{TileState}
use Rattle.xs_core.specs.declared.state.TileState.TheVariants.{Absent, Held, Leaving}
use Rattle.xs_core.specs.Counts.{one_if}
use Rattle.xs_core.specs.States.{World, phase_of, read_of, tile_of, with_read, with_tile, is_started, is_ready, is_lost, is_open, is_served, source_at, left}
use Rattle.xs_core.specs.Events.{start, IsOf, Allowed, happens, left_by}
use Rattle.xs_core.specs.Kept.{Fits, Kept}
use Rattle.xs_core.specs.Runs.{run, IsRun, after, claims, finishes, abandons, retires, is_claim_of, is_finish_of, is_abandon_of, is_retire_of, IsAllServed}
use Rattle.xs_core.proofs.CountLemmas.{how_many-none}
use Rattle.xs_core.proofs.StateLemmas.{said-set}
use Rattle.xs_core.proofs.KeptLemmas.{get_or-all, left-some, kept_start, kept_claim, kept_finish, kept_abandon, kept_turn, kept_give, kept_retire_more, kept_retire_last, kept_clear}

-- ---- every run keeps its states

kept_step :
    (p : PlanRecord) (w : World) (event : Event) → IsPlan p → All (λ source. source < length p.entries) (sources p)
    → Kept p w → IsOf p event → Allowed p w event → Kept p (happens p w event)
kept_step p w (Claim seat alias) plan exist kept there allowed = kept_claim p w alias seat kept there allowed
kept_step p w (Finish seat alias) plan exist kept there allowed = kept_finish p w alias seat plan kept there allowed
kept_step p w (Abandon seat alias) plan exist kept there allowed = kept_abandon p w alias seat kept there allowed
kept_step p w (Turn seat read) plan exist kept there allowed = kept_turn p w read seat kept there allowed.0 allowed.1
kept_step p w (Give seat read) plan exist kept there allowed = kept_give p w read seat kept there allowed
kept_step p w (Retire seat read) plan exist kept there allowed =
    cond_both (left p (with_read w read Served) (source_at p read) == 0) _ _ (λ v. Kept p v)
    (λ none. kept_retire_last p w read seat kept there (All-get_or (λ source. source < length p.entries) (sources p) read 0 there exist) allowed
    (eqb-true (left p (with_read w read Served) (source_at p read)) 0 none))
    (λ some. let above = eqb-false (left p (with_read w read Served) (source_at p read)) 0 some in
    kept_retire_more p w read seat kept there allowed (omega (arith, above)))
kept_step p w (Clear seat alias) plan exist kept there allowed = kept_clear p w alias seat kept there allowed

kept_run :
    (p : PlanRecord) (w : World) (events : List Event) → IsPlan p → All (λ source. source < length p.entries) (sources p)
    → Kept p w → IsRun p w events → Kept p (run p w events)
kept_run p w [] plan exist kept ran = kept
kept_run p w (event ∷ events) plan exist kept ran =
    kept_run p (happens p w event) events plan exist (kept_step p w event plan exist kept ran.0 ran.1) ran.2

pub kept_after :
    (p : PlanRecord) (events : List Event) → IsPlan p → All (λ source. source < length p.entries) (sources p)
    → IsRun p (start p) events → Kept p (after p events)
kept_after p events plan exist ran = kept_run p (start p) events plan exist (kept_start p) ran

-- ---- where tiles are

pub Fits-held : (b : Bool) (n : ℕ) (t : TileState) → Fits b n t → t ≡ Held → (b ≡ true) × (0 < n)
Fits-held true n Held fits is = (refl, fits)
Fits-held true n (Leaving seat) fits is = cc
Fits-held true n Absent fits is = cc
Fits-held false n Absent fits is = cc
Fits-held false n Held fits is = absurd fits
Fits-held false n (Leaving seat) fits is = absurd fits

pub Fits-is_held : (b : Bool) (n : ℕ) (t : TileState) → Fits b n t → b ≡ true → 0 < n → t ≡ Held
Fits-is_held true n Held fits ready some = refl
Fits-is_held true n (Leaving seat) fits ready some = absurd (omega (arith, fits))
Fits-is_held true n Absent fits ready some = absurd (omega (arith, fits))
Fits-is_held false n t fits ready some = cc

pub Fits-absent : (b : Bool) (n : ℕ) (t : TileState) → Fits b n t → b ≡ false → t ≡ Absent
Fits-absent true n t fits unready = cc
Fits-absent false n Absent fits unready = refl
Fits-absent false n Held fits unready = absurd fits
Fits-absent false n (Leaving seat) fits unready = absurd fits

pub Fits-leaving : (b : Bool) (n seat : ℕ) (t : TileState) → Fits b n t → t ≡ Leaving seat → (b ≡ true) × (n ≡ 0)
Fits-leaving true n seat Held fits is = cc
Fits-leaving true n seat (Leaving by) fits is = (refl, fits)
Fits-leaving true n seat Absent fits is = cc
Fits-leaving false n seat Absent fits is = cc
Fits-leaving false n seat Held fits is = absurd fits
Fits-leaving false n seat (Leaving by) fits is = absurd fits

pub Fits-gone : (b : Bool) (n : ℕ) (t : TileState) → Fits b n t → n ≡ 0 → ((seat : ℕ) → t ≡ Leaving seat → ⊥) → t ≡ Absent
Fits-gone true n Held fits none stays = absurd (omega (arith, fits, none))
Fits-gone true n (Leaving seat) fits none stays = absurd (stays seat refl)
Fits-gone true n Absent fits none stays = refl
Fits-gone false n Absent fits none stays = refl
Fits-gone false n Held fits none stays = absurd fits
Fits-gone false n (Leaving seat) fits none stays = absurd fits

-- ---- how often

-- how many of each list there are, in each state
record Sized (p : PlanRecord) (w : World) : Type 0 where
  pub phases_many : length w.phases ≡ length p.entries
  pub reads_many : length w.reads ≡ reads_in p

sized_step : (p : PlanRecord) (w : World) (event : Event) → Sized p w → Sized p (happens p w event)
sized_step p w (Claim seat alias) sized = record { phases_many = length-set w.phases alias (Claimed seat) ∙ sized.phases_many; reads_many = sized.reads_many }
sized_step p w (Finish seat alias) sized = record { phases_many = length-set w.phases alias (Ready seat) ∙ sized.phases_many; reads_many = sized.reads_many }
sized_step p w (Abandon seat alias) sized = record { phases_many = length-set w.phases alias Lost ∙ sized.phases_many; reads_many = sized.reads_many }
sized_step p w (Turn seat read) sized = record { phases_many = sized.phases_many; reads_many = length-set w.reads read (InTurn seat) ∙ sized.reads_many }
sized_step p w (Give seat read) sized = record { phases_many = sized.phases_many; reads_many = length-set w.reads read Waiting ∙ sized.reads_many }
sized_step p w (Retire seat read) sized =
    cond_both (left p (with_read w read Served) (source_at p read) == 0) _ _ (λ v. Sized p v)
    (λ none. record { phases_many = sized.phases_many; reads_many = length-set w.reads read Served ∙ sized.reads_many })
    (λ some. record { phases_many = sized.phases_many; reads_many = length-set w.reads read Served ∙ sized.reads_many })
sized_step p w (Clear seat alias) sized = record { phases_many = sized.phases_many; reads_many = sized.reads_many }

-- an event that is of an alias or not adds what a state tells of it
telescope :
    (p : PlanRecord) (is : Event → Bool) (tells : World → ℕ)
    → ((w : World) (event : Event) → Sized p w → IsOf p event → Allowed p w event → one_if (is event) + tells w ≡ tells (happens p w event))
    → (w : World) (events : List Event) → Sized p w → IsRun p w events → count_by is events + tells w ≡ tells (run p w events)
telescope p is tells step w [] sized ran = omega arith
telescope p is tells step w (event ∷ events) sized ran =
    let here = step w event sized ran.0 ran.1 in
    let rest = telescope p is tells step (happens p w event) events (sized_step p w event sized) ran.2 in
    let more = count_by-more is event events in
    omega (arith, here, rest, more)
  where
    count_by-more : (is : Event → Bool) (event : Event) (events : List Event) → count_by is (event ∷ events) ≡ one_if (is event) + count_by is events
    count_by-more is event events = sum_by-cons (λ e. cond (is e) 1 0) event events ∙ ap (λ n. n + count_by is events) (one (is event))
      where
        one : (b : Bool) → cond b 1 0 ≡ one_if b
        one true = refl
        one false = refl

-- something is put that tells what was not told before, and only there
pub told-new :
    {A : Type 0} (says : A → Bool) (l : List A) (j k : ℕ) (a d : A) → j < length l → says (get_or l j d) ≡ false → says a ≡ true
    → one_if (j == k) + one_if (says (get_or l k d)) ≡ one_if (says (get_or (set l j a) k d))
told-new says l j k a d there before now =
    elim (cases_eq j k) [
      | inl same ↦
          let one = ap one_if (eq-eqb j k same) in
          let old : one_if (says (get_or l k d)) ≡ 0 = ap (λ i. one_if (says (get_or l i d))) (sym same) ∙ ap one_if before in
          let new : one_if (says (get_or (set l j a) k d)) ≡ 1 =
          ap (λ i. one_if (says (get_or (set l j a) i d))) (sym same) ∙ ap (λ x. one_if (says x)) (get_or-set_same l j a d there) ∙ ap one_if now in
          omega (arith, one, old, new)
      | inr differ ↦
          let none = ap one_if (ne_eqb j k differ) in
          let same = ap (λ x. one_if (says x)) (get_or-set_other l j k a d (λ is. differ (sym is))) in
          omega (arith, none, same)
    ]

-- something is put that tells the same
pub told-same :
    {A : Type 0} (says : A → Bool) (l : List A) (j k : ℕ) (a d : A) → j < length l → says a ≡ says (get_or l j d)
    → 0 + one_if (says (get_or l k d)) ≡ one_if (says (get_or (set l j a) k d))
told-same says l j k a d there same = omega (arith, ap one_if (said-set says l j k a d there same))

-- what a retired read leaves of the phases and the reads
pub left_by-phase : (says : Phase → Bool) (p : PlanRecord) (w : World) (seat j k : ℕ) → says (phase_of (left_by p w seat j) k) ≡ says (phase_of w k)
left_by-phase says p w seat j k =
    cond_both (left p w j == 0) (with_tile w j (Leaving seat)) w (λ v. says (phase_of v k) ≡ says (phase_of w k)) (λ none. refl) (λ some. refl)

pub left_by-read : (says : ReadState → Bool) (p : PlanRecord) (w : World) (seat j e : ℕ) → says (read_of (left_by p w seat j) e) ≡ says (read_of w e)
left_by-read says p w seat j e =
    cond_both (left p w j == 0) (with_tile w j (Leaving seat)) w (λ v. says (read_of v e) ≡ says (read_of w e)) (λ none. refl) (λ some. refl)

claim_step :
    (p : PlanRecord) (k : ℕ) (w : World) (event : Event) → Sized p w → IsOf p event → Allowed p w event
    → one_if (is_claim_of k event) + one_if (is_started (phase_of w k)) ≡ one_if (is_started (phase_of (happens p w event) k))
claim_step p k w (Claim seat alias) sized there allowed =
    told-new is_started w.phases alias k (Claimed seat) Idle (omega (arith, sized.phases_many)) (ap is_started allowed) refl
claim_step p k w (Finish seat alias) sized there allowed =
    told-same is_started w.phases alias k (Ready seat) Idle (omega (arith, sized.phases_many)) (sym (ap is_started allowed))
claim_step p k w (Abandon seat alias) sized there allowed =
    told-same is_started w.phases alias k Lost Idle (omega (arith, sized.phases_many)) (sym (ap is_started allowed))
claim_step p k w (Turn seat read) sized there allowed = omega arith
claim_step p k w (Give seat read) sized there allowed = omega arith
claim_step p k w (Retire seat read) sized there allowed =
    omega (arith, ap one_if (left_by-phase is_started p (with_read w read Served) seat (source_at p read) k))
claim_step p k w (Clear seat alias) sized there allowed = omega arith

finish_step :
    (p : PlanRecord) (k : ℕ) (w : World) (event : Event) → Sized p w → IsOf p event → Allowed p w event
    → one_if (is_finish_of k event) + one_if (is_ready (phase_of w k)) ≡ one_if (is_ready (phase_of (happens p w event) k))
finish_step p k w (Claim seat alias) sized there allowed =
    told-same is_ready w.phases alias k (Claimed seat) Idle (omega (arith, sized.phases_many)) (sym (ap is_ready allowed))
finish_step p k w (Finish seat alias) sized there allowed =
    told-new is_ready w.phases alias k (Ready seat) Idle (omega (arith, sized.phases_many)) (ap is_ready allowed) refl
finish_step p k w (Abandon seat alias) sized there allowed =
    told-same is_ready w.phases alias k Lost Idle (omega (arith, sized.phases_many)) (sym (ap is_ready allowed))
finish_step p k w (Turn seat read) sized there allowed = omega arith
finish_step p k w (Give seat read) sized there allowed = omega arith
finish_step p k w (Retire seat read) sized there allowed =
    omega (arith, ap one_if (left_by-phase is_ready p (with_read w read Served) seat (source_at p read) k))
finish_step p k w (Clear seat alias) sized there allowed = omega arith

abandon_step :
    (p : PlanRecord) (k : ℕ) (w : World) (event : Event) → Sized p w → IsOf p event → Allowed p w event
    → one_if (is_abandon_of k event) + one_if (is_lost (phase_of w k)) ≡ one_if (is_lost (phase_of (happens p w event) k))
abandon_step p k w (Claim seat alias) sized there allowed =
    told-same is_lost w.phases alias k (Claimed seat) Idle (omega (arith, sized.phases_many)) (sym (ap is_lost allowed))
abandon_step p k w (Finish seat alias) sized there allowed =
    told-same is_lost w.phases alias k (Ready seat) Idle (omega (arith, sized.phases_many)) (sym (ap is_lost allowed))
abandon_step p k w (Abandon seat alias) sized there allowed =
    told-new is_lost w.phases alias k Lost Idle (omega (arith, sized.phases_many)) (ap is_lost allowed) refl
abandon_step p k w (Turn seat read) sized there allowed = omega arith
abandon_step p k w (Give seat read) sized there allowed = omega arith
abandon_step p k w (Retire seat read) sized there allowed =
    omega (arith, ap one_if (left_by-phase is_lost p (with_read w read Served) seat (source_at p read) k))
abandon_step p k w (Clear seat alias) sized there allowed = omega arith

retire_step :
    (p : PlanRecord) (e : ℕ) (w : World) (event : Event) → Sized p w → IsOf p event → Allowed p w event
    → one_if (is_retire_of e event) + one_if (is_served (read_of w e)) ≡ one_if (is_served (read_of (happens p w event) e))
retire_step p e w (Claim seat alias) sized there allowed = omega arith
retire_step p e w (Finish seat alias) sized there allowed = omega arith
retire_step p e w (Abandon seat alias) sized there allowed = omega arith
retire_step p e w (Turn seat read) sized there allowed =
    told-same is_served w.reads read e (InTurn seat) Waiting (omega (arith, sized.reads_many)) (sym (ap is_served allowed.0.1))
retire_step p e w (Give seat read) sized there allowed =
    told-same is_served w.reads read e Waiting Waiting (omega (arith, sized.reads_many)) (sym (ap is_served allowed))
retire_step p e w (Retire seat read) sized there allowed =
    told-new is_served w.reads read e Served Waiting (omega (arith, sized.reads_many)) (ap is_served allowed.1) refl
    ∙ sym (ap one_if (left_by-read is_served p (with_read w read Served) seat (source_at p read) e))
retire_step p e w (Clear seat alias) sized there allowed = omega arith

sized_start : (p : PlanRecord) → Sized p (start p)
sized_start p = record { phases_many = length-replicate (length p.entries) Idle; reads_many = length-replicate (reads_in p) Waiting }

pub claims-started : (p : PlanRecord) (events : List Event) → IsRun p (start p) events → (k : ℕ)
    → claims k events ≡ one_if (is_started (phase_of (after p events) k))
claims-started p events ran k =
    let all = telescope p (is_claim_of k) (λ w. one_if (is_started (phase_of w k))) (claim_step p k) (start p) events (sized_start p) ran in
    let none : one_if (is_started (phase_of (start p) k)) ≡ 0 = ap (λ s. one_if (is_started s)) (get_or-all (length p.entries) k Idle) in
    omega (arith, all, none)

pub finishes-ready : (p : PlanRecord) (events : List Event) → IsRun p (start p) events → (k : ℕ)
    → finishes k events ≡ one_if (is_ready (phase_of (after p events) k))
finishes-ready p events ran k =
    let all = telescope p (is_finish_of k) (λ w. one_if (is_ready (phase_of w k))) (finish_step p k) (start p) events (sized_start p) ran in
    let none : one_if (is_ready (phase_of (start p) k)) ≡ 0 = ap (λ s. one_if (is_ready s)) (get_or-all (length p.entries) k Idle) in
    omega (arith, all, none)

pub abandons-lost : (p : PlanRecord) (events : List Event) → IsRun p (start p) events → (k : ℕ)
    → abandons k events ≡ one_if (is_lost (phase_of (after p events) k))
abandons-lost p events ran k =
    let all = telescope p (is_abandon_of k) (λ w. one_if (is_lost (phase_of w k))) (abandon_step p k) (start p) events (sized_start p) ran in
    let none : one_if (is_lost (phase_of (start p) k)) ≡ 0 = ap (λ s. one_if (is_lost s)) (get_or-all (length p.entries) k Idle) in
    omega (arith, all, none)

pub retires-served : (p : PlanRecord) (events : List Event) → IsRun p (start p) events → (e : ℕ)
    → retires e events ≡ one_if (is_served (read_of (after p events) e))
retires-served p events ran e =
    let all = telescope p (is_retire_of e) (λ w. one_if (is_served (read_of w e))) (retire_step p e) (start p) events (sized_start p) ran in
    let none : one_if (is_served (read_of (start p) e)) ≡ 0 = ap (λ s. one_if (is_served s)) (get_or-all (reads_in p) e Waiting) in
    omega (arith, all, none)

-- ---- where every read is served

pub left_when_served : (p : PlanRecord) (w : World) → IsAllServed p w → (k : ℕ) → left p w k ≡ 0
left_when_served p w all k =
    how_many-none (reads_in p) (λ e. (source_at p e == k) && is_open (read_of w e))
    (λ e less. and_right (source_at p e == k) (is_open (read_of w e)) (closed (read_of w e) (all e less)))
  where
    closed : (r : ReadState) → is_served r ≡ true → is_open r ≡ false
    closed Waiting is = cc
    closed (InTurn seat) is = cc
    closed Served is = refl

-- an alias has a reader, which is served, so that it is ready
pub ready_when_served :
    (p : PlanRecord) (w : World) → IsPlan p → Kept p w → IsAllServed p w → (k : ℕ) → k < length p.entries → is_ready (phase_of w k) ≡ true
ready_when_served p w plan kept all k there =
    elim (cases_Bool (is_ready (phase_of w k))) [
      | inl ready ↦ ready
      | inr unready ↦
          let some = left-some p w plan kept k there unready in
          absurd (omega (arith, some, left_when_served p w all k))
    ]

pub gone_when_served :
    (p : PlanRecord) (w : World) → Kept p w → IsAllServed p w → ((k seat : ℕ) → tile_of w k ≡ Leaving seat → ⊥) → (k : ℕ) → tile_of w k ≡ Absent
gone_when_served p w kept all stays k = Fits-gone (is_ready (phase_of w k)) (left p w k) (tile_of w k) (kept.fits k) (left_when_served p w all k) (stays k)

ready-started : (s : Phase) → is_ready s ≡ true → is_started s ≡ true
ready-started Idle ready = cc
ready-started (Claimed seat) ready = refl
ready-started (Ready seat) ready = refl
ready-started Lost ready = refl

ready-not_lost : (s : Phase) → is_ready s ≡ true → is_lost s ≡ false
ready-not_lost Idle ready = refl
ready-not_lost (Claimed seat) ready = refl
ready-not_lost (Ready seat) ready = refl
ready-not_lost Lost ready = cc

pub once_when_served :
    (p : PlanRecord) (events : List Event) → IsRun p (start p) events → (k : ℕ) → is_ready (phase_of (after p events) k) ≡ true
    → (claims k events ≡ 1) × (finishes k events ≡ 1) × (abandons k events ≡ 0)
once_when_served p events ran k ready = (
  claims-started p events ran k ∙ ap one_if (ready-started (phase_of (after p events) k) ready),
  finishes-ready p events ran k ∙ ap one_if ready,
  abandons-lost p events ran k ∙ ap one_if (ready-not_lost (phase_of (after p events) k) ready),
)
