-- What a render computes, and what its cache tells when it is closed
use Rattle.std.specs.Prelude.{◌≡◌, ◌≤◌, ◌<◌, ℕ, List, [], slice_index_or, Option, Some, None, Result, Ok, Err, false}
use Rattle.xs_check.specs.Passes.{first_fault}
use Rattle.xs_core.specs.Views.{times}
use Rattle.xs_demand.specs.Shown.{tints_shown}
use Rattle.xs_levels.specs.Films.{Files}
use Rattle.xs_make.specs.Scenes.{scene_from}
use Rattle.xs_plan.specs.Record.{PlanRecord}
use Rattle.xs_plan.specs.Reads.{reads_in}
use Rattle.xs_render.specs.Computed.{HasEachOnce}
use Rattle.xs_scene.specs.Records.{SceneRecord}
use Rattle.xs_word_desk.specs.declared.closing.Closed.{Closed}
use Rattle.xs_word_desk.specs.Closing.{closed_plan, closed_made, closed_served, closed_tiles}
use Rattle.xs_words.specs.declared.command.Command.{Command}
use Rattle.xs_words.specs.declared.command.Command.TheVariants as command
use Rattle.xs_words.specs.declared.fault.Usage.{Usage}
use Rattle.xs_top.specs.declared.status.Status.{Status}
use Rattle.xs_top.specs.declared.status.Status.TheVariants as answers
use Rattle.xs_top.specs.Causes.{is_ok}
use Rattle.xs_top.specs.Demand.{limit_in, plan_in}
use Rattle.xs_top.specs.Finished.{Says}

-- a cache of a plan was closed: each alias was made once and each read served once, nothing else was, and no tile is
-- left
pub record IsClosedOf (p : PlanRecord) (c : Closed) : Type 0 where
  pub plan : closed_plan c ≡ p
  pub made : HasEachOnce p (closed_made c)
  pub served : (e : ℕ) → e < reads_in p → times e (closed_served c) ≡ 1
  pub others : (e : ℕ) → reads_in p ≤ e → times e (closed_served c) ≡ 0
  pub empty : closed_tiles c ≡ 0

-- each alias of the demand of rows was computed once, in a cache that was closed; the cache was one of the plan of the
-- rows, but for how this tells its tints
pub record ComputedRows (scene : SceneRecord) (from to : ℕ) (computed : List ℕ) (c : Closed) : Type 0 where
  pub each : HasEachOnce (plan_in scene from to) computed
  pub plan : PlanRecord
  pub shown : record plan { tints = tints_shown plan } ≡ plan_in scene from to
  pub closed : IsClosedOf plan c

-- so it was of rows of a scene that has no fault, and whose rows pass no limit of the demand; where the library tells its
-- files, one of them says it
pub record ComputedOnce (files : Option Files) (name : List ℕ) (from to : ℕ) (computed : List ℕ) (c : Closed) : Type 0 where
  pub scene : SceneRecord
  pub says : (told : Files) → files ≡ Some told → Says told name scene
  pub faultless : first_fault scene ≡ None
  pub within : limit_in scene from to ≡ None
  pub rows : ComputedRows scene from to computed c

-- no alias was computed twice
abbrev pub NoneTwice : List ℕ → Type 0
NoneTwice computed = (k : ℕ) → times k computed ≤ 1

-- a render that ended well computed each alias once, in a cache that is closed
abbrev pub EndsOnce : Option Files → List ℕ → (from to : ℕ) → List ℕ → Option Closed → Type 0
EndsOnce files name from to computed end = (closed : Closed) × (end ≡ Some closed) × ComputedOnce files name from to computed closed

-- so did a render where it ended well; else there is no closing record; and no alias was computed twice
pub record RenderedOnce (files : Option Files) (name : List ℕ) (from to : ℕ) (computed : List ℕ) (end : Option Closed) (answer : Status) : Type 0 where
  pub whole : answer ≡ answers.Ok → EndsOnce files name from to computed end
  pub failed : is_ok answer ≡ false → end ≡ None
  pub twice : NoneTwice computed

-- so it was of a generated scene
abbrev pub MadeOnce : (seed rows : ℕ) → List ℕ → Option Closed → Type 0
MadeOnce seed rows computed end = (closed : Closed) × (end ≡ Some closed) × ComputedRows (scene_from seed rows) 1 rows computed closed

pub record GeneratedOnce (seed rows : ℕ) (computed : List ℕ) (end : Option Closed) (answer : Status) : Type 0 where
  pub whole : answer ≡ answers.Ok → MadeOnce seed rows computed end
  pub failed : is_ok answer ≡ false → end ≡ None
  pub twice : NoneTwice computed

-- ---- a run

-- how many workers a command says; those that compute nothing need none
abbrev pub workers_of : Command → ℕ
workers_of (command.Render scene from to workers base) = workers
workers_of (command.Show scene) = 0
workers_of (command.Dry scene from to) = 0
workers_of (command.Make seed rows workers) = workers
workers_of (command.Again old new from to workers base) = workers

abbrev pub workers_in : Result Command Usage → ℕ
workers_in (Err usage) = 0
workers_in (Ok command) = workers_of command

-- the benches from this number on computed nothing
abbrev pub AreIdleFrom : ℕ → List (List ℕ) → Type 0
AreIdleFrom workers records = (n : ℕ) → workers ≤ n → slice_index_or records n [] ≡ []

-- a render that ended well computed each alias once, in a cache that is closed; whatever is answered, none was computed
-- twice; and there is a closing record only of a render that ended well
pub record RendersOnce (files : Option Files) (said : Command) (computed : List ℕ) (end : Option Closed) (answer : Status) : Type 0 where
  pub rendered :
      (scene base : List ℕ) (from to workers : ℕ) → said ≡ command.Render scene from to workers base → answer ≡ answers.Ok
      → EndsOnce files scene from to computed end
  pub made :
      (seed rows workers : ℕ) → said ≡ command.Make seed rows workers → answer ≡ answers.Ok → MadeOnce seed rows computed end
  pub shown : (scene : List ℕ) → said ≡ command.Show scene → end ≡ None
  pub dry : (scene : List ℕ) (from to : ℕ) → said ≡ command.Dry scene from to → end ≡ None
  pub failed : is_ok answer ≡ false → end ≡ None
  pub twice : NoneTwice computed

-- so it is of words, which are a command or none
abbrev pub RunsOnce : Option Files → Result Command Usage → List ℕ → Option Closed → Status → Type 0
RunsOnce files (Err usage) computed end answer = (computed ≡ []) × (end ≡ None)
RunsOnce files (Ok command) computed end answer = RendersOnce files command computed end answer

-- the closing record that a part of a run gives, if it came through and gives one
abbrev pub closed_by : Result (Option Closed) Status → Option Closed
closed_by (Ok closed) = closed
closed_by (Err status) = None
