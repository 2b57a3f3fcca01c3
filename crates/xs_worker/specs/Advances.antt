-- What a worker may rest on, and what its calls tell
use Rattle.std.specs.Prelude.{◌≡◌, ◌≢◌, ◌<◌, ◌≤◌, ℕ, Option, Some, None, Result, MatchResult, List, [], length, slice_index}
use Rattle.xs_base.specs.declared.memory.Memory.{Memory}
use Rattle.xs_plan.specs.Record.{PlanRecord}
use Rattle.xs_core.specs.Views.{DeskView, Knows, times}
use Rattle.xs_worker.specs.declared.advanced.Advanced.{Advanced}
use Rattle.xs_worker.specs.declared.advanced.Advanced.TheVariants as advanced
use Rattle.xs_worker.specs.Piles.{last_or}
use Rattle.xs_worker.specs.Claims.{Grew, IsAble, WasBusy, WasLost}

-- a worker: its targets, of which so many first ones are known to be ready; what it has claimed, the last first; and for
-- whose sake it gave up, if it did
pub record Standing : Type 0 where
  pub targets : List ℕ
  pub next : ℕ
  pub stack : List ℕ
  pub gone : Option ℕ

abbrev pub standing : List ℕ → ℕ → List ℕ → Option ℕ → Standing
standing targets next stack gone = record { targets = targets; next = next; stack = stack; gone = gone }

abbrev pub fresh_worker : List ℕ → Standing
fresh_worker targets = standing targets 0 [] None

-- a worker stands at a seat: what the seat has claimed is what the worker has, and once it gave up that is nothing
pub record StandsAt (p : PlanRecord) (s : Standing) (v : DeskView) : Type 0 where
  pub able : IsAble p s.targets s.next s.stack v
  pub over : s.gone ≢ None → (s.stack ≡ []) × (0 < length s.targets)

-- the alias that was given up last, or the first target where none was
abbrev pub lost_after : Option ℕ → ℕ → ℕ
lost_after None first = first
lost_after (Some k) first = k

-- all targets are ready
pub record HasFinished (p : PlanRecord) (s : Standing) (v : DeskView) (b : List ℕ) (new : Standing) (w : DeskView) (c : List ℕ) : Type 0 where
  pub grew : Grew p s.targets v w b c [] []
  pub before : s.gone ≡ None
  pub gone : new.gone ≡ None
  pub stack : new.stack ≡ []
  pub ready : (i : ℕ) → i < length s.targets → Knows w (slice_index s.targets i)

-- another seat has an alias, or was taking its tile
pub record IsBlocked (p : PlanRecord) (s : Standing) (v : DeskView) (b : List ℕ) (k : ℕ) (new : Standing) (w : DeskView) (c : List ℕ) : Type 0 where
  pub grew : Grew p s.targets v w b c [] []
  pub before : s.gone ≡ None
  pub gone : new.gone ≡ None
  pub busy : WasBusy k v w

-- an alias was given up, now or in an earlier call
pub record HasLost (p : PlanRecord) (s : Standing) (v : DeskView) (b : List ℕ) (k : ℕ) (new : Standing) (w : DeskView) (c : List ℕ) : Type 0 where
  pub given : List ℕ
  pub grew : Grew p s.targets v w b c [] given
  pub gone : new.gone ≡ Some k
  pub stack : new.stack ≡ []
  pub cause : s.gone ≡ None → WasLost k v w
  pub again : s.gone ≢ None → s.gone ≡ Some k

-- memory was wanting: all that was claimed was given up, with it at most one alias that the bench had computed
pub record FellShort (p : PlanRecord) (s : Standing) (v : DeskView) (b : List ℕ) (new : Standing) (w : DeskView) (c : List ℕ) : Type 0 where
  pub more : List ℕ
  pub given : List ℕ
  pub one : length more ≤ 1
  pub given_up : (k : ℕ) → 0 < times k more → 0 < times k given
  pub grew : Grew p s.targets v w b c more given
  pub before : s.gone ≡ None
  pub gone : new.gone ≡ Some (lost_after (last_or None given) (slice_index s.targets 0))
  pub stack : new.stack ≡ []

abbrev pub AdvancedTells : PlanRecord → Standing → DeskView → List ℕ → Advanced → Standing → DeskView → List ℕ → Type 0
AdvancedTells p s v b advanced.Finished new w c = HasFinished p s v b new w c
AdvancedTells p s v b (advanced.Blocked k) new w c = IsBlocked p s v b k new w c
AdvancedTells p s v b (advanced.Lost k) new w c = HasLost p s v b k new w c

abbrev pub AdvanceTells : PlanRecord → Standing → DeskView → List ℕ → Result Advanced Memory → Standing → DeskView → List ℕ → Type 0
AdvanceTells p s v b result new w c = MatchResult result (λ a. AdvancedTells p s v b a new w c) (λ _. FellShort p s v b new w c)
