-- What a worker has claimed, and what its calls added to the lists of its seat and of its bench
use Rattle.std.specs.Prelude.{◌≡◌, ◌<◌, ◌≤◌, ℕ, ◌+◌, ◌*◌, ◌==◌, Bool, true, false, ◌&&◌, Some, List, [], ◌∷◌, ◌++◌, length, map, count_by, slice_index}
use Rattle.xs_plan.specs.Record.{PlanRecord, entry_at}
use Rattle.xs_plan.specs.Reads.{port_read_of}
use Rattle.xs_core.specs.Counts.{how_many}
use Rattle.xs_core.specs.Views.{Signed, signed, Met, FoundBusy, FoundLost, FoundInTurn, Meeting, DeskView, times, entries, Knows, Unknown}
use Rattle.xs_rawfile.specs.Held.{Held}
use Rattle.xs_bench.specs.Inputs.{HasDrawing}
use Rattle.xs_core.specs.Calls.{Adds}
use Rattle.xs_worker.specs.Reading.{IsReached}

-- entries of a seat
abbrev pub tagged : ℕ → List ℕ → List Signed
tagged number items = map (λ k. signed number k) items

-- claimed aliases, the last first: the targets reach each, and it is of the plan and stands before those that were
-- claimed before it
abbrev pub IsChain : PlanRecord → List ℕ → List ℕ → Type 0
IsChain p targets [] = Unit {0}
IsChain p targets (k ∷ ks) = IsReached p targets k × (k < length p.entries) × ((j : ℕ) → 0 < times j ks → k < j) × IsChain p targets ks

-- what a worker has claimed is what its seat has claimed, and no read of it was served
pub record Fits (p : PlanRecord) (targets stack : List ℕ) (v : DeskView) : Type 0 where
  pub chain : IsChain p targets stack
  pub claims : (k : ℕ) → entries k v.won ≡ entries k v.made + entries k v.lost + times k stack
  pub unserved : (k port e : ℕ) → 0 < times k stack → port_read_of p k port ≡ Some e → entries e v.served ≡ 0

-- a seat won, made, gave up and served these, and its bench computed what it made and then some more. It won only aliases
-- that the targets reach and that it did not know to be ready; it served exactly the reads at ports of what it made
pub record Grew (p : PlanRecord) (targets : List ℕ) (v w : DeskView) (b c more gone : List ℕ) : Type 0 where
  pub won : List ℕ
  pub made : List ℕ
  pub served : List ℕ
  pub adds : Adds v w (tagged v.number won) (tagged v.number made) (tagged v.number gone) (tagged v.number served)
  pub bench : c ≡ b ++ (made ++ more)
  pub reached : (k : ℕ) → 0 < times k won → IsReached p targets k × Unknown v k
  pub ports : (e : ℕ) → 0 < times e served → (k : ℕ) × (port : ℕ) × (port_read_of p k port ≡ Some e) × (0 < times k made)
  pub closed : (k port e : ℕ) → 0 < times k made → port_read_of p k port ≡ Some e → 0 < times e served

-- how often a call met an alias so
abbrev pub meetings : (Met → Bool) → ℕ → List Meeting → ℕ
meetings test k met = count_by (λ m. (m.alias == k) && test m.met) met

abbrev pub is_busy : Met → Bool
is_busy FoundBusy = true
is_busy FoundInTurn = true
is_busy _ = false

abbrev pub is_lost : Met → Bool
is_lost FoundLost = true
is_lost _ = false

-- an alias was met that another seat has claimed, or whose tile another seat was taking
pub record WasBusy (k : ℕ) (v w : DeskView) : Type 0 where
  pub shared : v.solo ≡ false
  pub met : meetings is_busy k v.met < meetings is_busy k w.met
  pub others : entries k w.won ≡ entries k w.made + entries k w.lost

-- an alias was met that was given up
pub record WasLost (k : ℕ) (v w : DeskView) : Type 0 where
  pub met : v.solo ≡ false → meetings is_lost k v.met < meetings is_lost k w.met
  pub lost : v.solo ≡ true → 0 < entries k v.lost

-- how many aliases were not won yet
abbrev pub unwon : PlanRecord → DeskView → ℕ
unwon p v = how_many (length p.entries) (λ k. entries k v.won == 0)

-- how much there is to do at most before a target is ready
abbrev pub work_left : PlanRecord → List ℕ → DeskView → ℕ
work_left p stack v = 2 * unwon p v + length stack

-- the drawings are held of the aliases that the targets reach and that the seat does not know to be ready or has claimed
abbrev pub AreDrawn : PlanRecord → List ℕ → List ℕ → DeskView → Held → Type 0
AreDrawn p targets stack v held = (k : ℕ) → IsReached p targets k → (Knows v k → 0 < times k stack) → HasDrawing held (entry_at p.entries k).job

-- a worker may go on: its claims fit; its targets are of the plan, and the first so many are known to be ready; once all
-- are, nothing is claimed
pub record IsAble (p : PlanRecord) (targets : List ℕ) (next : ℕ) (stack : List ℕ) (v : DeskView) : Type 0 where
  pub fits : Fits p targets stack v
  pub there : (i : ℕ) → i < length targets → slice_index targets i < length p.entries
  pub within : next ≤ length targets
  pub known : (i : ℕ) → i < next → Knows v (slice_index targets i)
  pub last : next ≡ length targets → stack ≡ []
