-- What a bench has computed
use Rattle.std.specs.Prelude.{◌≡◌, ◌<◌, ◌≤◌, ℕ, List, length}
use Rattle.xs_plan.specs.Record.{PlanRecord}
use Rattle.xs_core.specs.Views.{DeskView, times, entries}

-- the aliases that a seat has made were computed, and no others; none twice
pub record IsRecorded (v : DeskView) (computed : List ℕ) : Type 0 where
  pub made : (k : ℕ) → times k computed ≡ entries k v.made
  pub once : (k : ℕ) → times k computed ≤ 1

-- the aliases of a plan, each once, and nothing else
pub record HasEachOnce (p : PlanRecord) (computed : List ℕ) : Type 0 where
  pub each : (k : ℕ) → k < length p.entries → times k computed ≡ 1
  pub others : (k : ℕ) → length p.entries ≤ k → times k computed ≡ 0
