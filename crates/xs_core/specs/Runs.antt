-- Runs: lists of events, each allowed where it comes
use Rattle.std.specs.Prelude.{◌≡◌, ◌<◌, ℕ, Bool, true, false, ◌==◌, List, [], ◌∷◌, count_by}
use Rattle.xs_plan.specs.Record.{PlanRecord}
use Rattle.xs_plan.specs.Reads.{reads_in}
use Rattle.xs_core.specs.declared.event.Event.{Event}
use Rattle.xs_core.specs.declared.event.Event.TheVariants.{Claim, Finish, Abandon, Retire}
use Rattle.xs_core.specs.States.{World, read_of, is_served}
use Rattle.xs_core.specs.Events.{IsOf, Allowed, happens, start}

-- the state after some events
abbrev pub run : PlanRecord → World → List Event → World
run p w [] = w
run p w (event ∷ events) = run p (happens p w event) events

-- each event is of the plan, and allowed in the state that those before it leave
abbrev pub IsRun : PlanRecord → World → List Event → Type 0
IsRun p w [] = Unit {0}
IsRun p w (event ∷ events) = IsOf p event × Allowed p w event × IsRun p (happens p w event) events

-- the state after a run from the start
abbrev pub after : PlanRecord → List Event → World
after p events = run p (start p) events

-- ---- how often something happens

abbrev pub is_claim_of : ℕ → Event → Bool
is_claim_of k (Claim seat alias) = alias == k
is_claim_of k _ = false

abbrev pub is_finish_of : ℕ → Event → Bool
is_finish_of k (Finish seat alias) = alias == k
is_finish_of k _ = false

abbrev pub is_abandon_of : ℕ → Event → Bool
is_abandon_of k (Abandon seat alias) = alias == k
is_abandon_of k _ = false

abbrev pub is_retire_of : ℕ → Event → Bool
is_retire_of e (Retire seat read) = read == e
is_retire_of e _ = false

abbrev pub claims : ℕ → List Event → ℕ
claims k events = count_by (is_claim_of k) events

abbrev pub finishes : ℕ → List Event → ℕ
finishes k events = count_by (is_finish_of k) events

abbrev pub abandons : ℕ → List Event → ℕ
abandons k events = count_by (is_abandon_of k) events

abbrev pub retires : ℕ → List Event → ℕ
retires e events = count_by (is_retire_of e) events

-- every read is served
abbrev pub IsAllServed : PlanRecord → World → Type 0
IsAllServed p w = (e : ℕ) → e < reads_in p → is_served (read_of w e) ≡ true
