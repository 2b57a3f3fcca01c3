-- What the steps of a worker tell
use Rattle.std.specs.Prelude.{◌≡◌, ◌<◌, ◌≤◌, ℕ, ◌++◌, false, Option, List, [], ◌∷◌, length, slice_get}
use Rattle.xs_pixel.specs.Picture.{Pictures}
use Rattle.xs_plan.specs.Record.{PlanRecord, entry_at}
use Rattle.xs_core.specs.Views.{DeskView, FoundInTurn, times}
use Rattle.xs_core.specs.Calls.{Stays, Meets, HoldsTile}
use Rattle.xs_bench.specs.Inputs.{HoldsInput}
use Rattle.xs_worker.specs.declared.step.Step.{Step}
use Rattle.xs_worker.specs.declared.step.Step.TheVariants as step
use Rattle.xs_worker.specs.declared.step.Computed.{Computed}
use Rattle.xs_worker.specs.declared.step.Computed.TheVariants as computed
use Rattle.xs_worker.specs.declared.step.Input.{Input}
use Rattle.xs_worker.specs.declared.step.Input.TheVariants as input
use Rattle.xs_worker.specs.Claims.{Fits, Grew, meetings, is_busy, WasBusy, WasLost, work_left}

-- from one stack, view and record of a bench to others, with nothing given up
pub record Went
    (p : PlanRecord) (targets : List ℕ) (stack : List ℕ) (v : DeskView) (b : List ℕ) (new : List ℕ) (w : DeskView) (c more : List ℕ) : Type 0 where
  pub grew : Grew p targets v w b c more []
  pub fits : Fits p targets new w

-- where memory was wanting the bench may have computed one more alias, which is still claimed
pub record WentShort
    (p : PlanRecord) (targets : List ℕ) (stack : List ℕ) (v : DeskView) (b : List ℕ) (new : List ℕ) (w : DeskView) (c : List ℕ) : Type 0 where
  pub more : List ℕ
  pub one : length more ≤ 1
  pub claimed : (k : ℕ) → 0 < times k more → 0 < times k new
  pub went : Went p targets stack v b new w c more

abbrev pub StepTells : PlanRecord → List ℕ → List ℕ → DeskView → List ℕ → Step → List ℕ → DeskView → List ℕ → Type 0
StepTells p targets stack v b step.Moved new w c = Went p targets stack v b new w c [] × (work_left p new w < work_left p stack v)
StepTells p targets stack v b step.Ready new w c = Went p targets stack v b new w c [] × (work_left p new w ≤ work_left p stack v)
StepTells p targets stack v b (step.Blocked k) new w c = Went p targets stack v b new w c [] × WasBusy k v w
StepTells p targets stack v b (step.Lost k) new w c = Went p targets stack v b new w c [] × WasLost k v w
StepTells p targets stack v b step.Short new w c = WentShort p targets stack v b new w c

-- ---- tiles

-- the tile of another seat's turn was wanted
abbrev pub WasInTurn : ℕ → DeskView → DeskView → Type 0
WasInTurn i v w = Stays v w × Meets v w i FoundInTurn × (v.solo ≡ false)

-- so, and maybe more was met before
pub record WasTaken (i : ℕ) (v w : DeskView) : Type 0 where
  pub stays : Stays v w
  pub shared : v.solo ≡ false
  pub met : meetings is_busy i v.met < meetings is_busy i w.met

abbrev pub InputTells : Option Pictures → PlanRecord → ℕ → ℕ → DeskView → Input → DeskView → Type 0
InputTells told p k port v (input.There t) w = Stays v w × HoldsInput told p (slice_get (entry_at p.entries k).inputs port) t
InputTells told p k port v (input.Turn i) w = WasInTurn i v w × (i < k)
InputTells told p k port v input.Short w = Stays v w

abbrev pub ComputedTells : Option Pictures → PlanRecord → ℕ → DeskView → List ℕ → Computed → DeskView → List ℕ → Type 0
ComputedTells told p k v b (computed.Done t) w c = Stays v w × HoldsTile told p k t × (c ≡ b ++ k ∷ [])
ComputedTells told p k v b (computed.Turn i) w c = WasTaken i v w × (i < k) × (c ≡ b)
ComputedTells told p k v b computed.Short w c =
    Stays v w × ((more : List ℕ) × (length more ≤ 1) × ((j : ℕ) → 0 < times j more → j ≡ k) × (c ≡ b ++ more))
