-- What the states of a build stand for
use Rattle.std.specs.Prelude.{◌≡◌, ◌<◌, ◌≤◌, ◌+◌, ◌*◌, ◌^◌, ◌++◌, ◌∷◌, ℕ, Bool, false, max, Some, Result, IfOk, OnOk, IsErrOf, List, [], All, length, map, slice_get, slice_index, slice_index_or}
use Rattle.xs_base.specs.declared.limits.TheConstants.{GREATEST_RADIUS}
use Rattle.xs_pixel.specs.Points.{Point, point}
use Rattle.xs_scene.specs.Records.{SceneRecord}
use Rattle.xs_check.specs.Good.{files_of}
use Rattle.xs_meaning.specs.Ends.{AllEnd}
use Rattle.xs_meaning.specs.Expressions.{Expr, is_clear, by_offsets}
use Rattle.xs_meaning.specs.Palettes.{Dropped}
use Rattle.xs_scene.specs.declared.node.Ref.{Ref}
use Rattle.xs_step.specs.Spots.{input_spot}
use Rattle.xs_step.specs.declared.spot.Spot.{Spot}
use Rattle.xs_step.specs.declared.spot.TheConstants.{LONGEST_WAY}
use Rattle.xs_step.specs.declared.step.Step.{Step}
use Rattle.xs_step.specs.Readings.{answer_at, step_by}
use Rattle.xs_step.specs.Steps.{step_of, AreThere, IsBounded}
use Rattle.xs_step.specs.Ways.{WaysEnd}
use Rattle.xs_tint.specs.Filters.{dropped_by}
use Rattle.xs_demand.specs.Blocks.{Spread, spread, enter, put, Enters}
use Rattle.xs_demand.specs.Renamed.{renamed}
use Rattle.xs_entered.specs.Entered.{spread_at}
use Rattle.xs_extent.specs.Extent.{AreRight}
use Rattle.xs_stays.specs.Found.{KeepsSets}
use Rattle.xs_stays.specs.Found as stays
use Rattle.xs_stays.specs.Stays.{stay_at, stay_or, IsNormal}
use Rattle.xs_build.specs.declared.build.Build.{Build}
use Rattle.xs_build.specs.declared.scope.Scope.{Scope}
use Rattle.xs_build.specs.declared.state.State.{State}
use Rattle.xs_build.specs.declared.stop.Stop.{Stop}
use Rattle.xs_build.specs.declared.stop.Stop.TheVariants.{Full}
use Rattle.xs_build.specs.Room.{HasRoom}
use Rattle.xs_build.specs.Stacks.{seen_down, laid_over, enter_each, put_over}

-- ---- expressions of spots and states

-- the name of a drawing
abbrev pub named : List ℕ → ℕ → ℕ
named names d = slice_index names d

-- the expression of a spot under dropped styles and an offset, with the drawings under their names
abbrev pub spot_expr : SceneRecord → List ℕ → Spot → Dropped → Point → Expr
spot_expr s names p f o = renamed (named names) (answer_at (by_offsets s) s p f o)

-- that of a step from a spot
abbrev pub step_expr : SceneRecord → List ℕ → Spot → Dropped → Step → Point → Expr
step_expr s names p f step o = renamed (named names) (step_by (by_offsets s) (answer_at (by_offsets s) s) p f step o)

-- the dropped styles that have a number
abbrev pub dropped_in : List (List Bool) → ℕ → Dropped
dropped_in sets k = dropped_by (slice_index_or sets k [])

abbrev pub offset_of : State → Point
offset_of t = point t.x t.y

-- the expression of a state, and that of a step from it
abbrev pub state_expr : SceneRecord → List ℕ → List (List Bool) → State → Expr
state_expr s names sets t = spot_expr s names t.spot (dropped_in sets t.dropped) (offset_of t)

abbrev pub stepped_expr : SceneRecord → List ℕ → List (List Bool) → State → Step → Expr
stepped_expr s names sets t step = step_expr s names t.spot (dropped_in sets t.dropped) step (offset_of t)

-- the expression of a column or node of the state's sheet at its row
abbrev pub terminal_expr : SceneRecord → List ℕ → List (List Bool) → State → Ref → Expr
terminal_expr s names sets t r = state_expr s names sets (record t { spot = input_spot t.spot.sheet r t.spot.row })

-- ---- numbers

-- the expression with a number
abbrev pub expr_at : List Spread → ℕ → Expr
expr_at l n = (spread_at l n).expr

-- a number is that of an expression that was entered with a growth
abbrev pub IsAt : List Spread → ℕ → ℕ → Type 0
IsAt l growth n = slice_get l n ≡ Some (spread (expr_at l n) growth)

-- a number stands for a state
pub record StandsFor (s : SceneRecord) (names : List ℕ) (sets : List (List Bool)) (l : List Spread) (t : State) (n : ℕ) : Type 0 where
  pub set : t.dropped < length sets
  pub at : slice_get l n ≡ Some (spread (state_expr s names sets t) t.growth)

-- what is remembered is so
pub record IsSound (s : SceneRecord) (names : List ℕ) (b : Build) : Type 0 where
  pub extents : AreRight s b.extents
  pub stays : stays.AreRight s b.stays
  pub states : All (λ e. StandsFor s names b.sets.keys b.entered e.0 e.1) b.states.entries

-- a build after more was entered, with at most one expression more than there may be
pub record Grows (s : SceneRecord) (names : List ℕ) (most : ℕ) (old new : Build) : Type 0 where
  pub sound : IsSound s names new
  pub sets : KeepsSets old.sets.keys new.sets.keys
  pub few : length new.entered ≤ max (length old.entered) (most + 1)

-- ---- what may be entered

-- each drawing of the scene has a name, and there may not be too many expressions
pub record IsReady (at : Scope) : Type 0 where
  pub ends : AllEnd at.scene.now.sheets
  pub names : length at.names.now ≡ length (files_of at.scene.now.levels)
  pub most : at.most < 2 ^ 30

-- the numbers of a state are bounded, where the ways from its spot have at most so many spots, and its set of
-- dropped styles is known
pub record IsState (s : SceneRecord) (left : ℕ) (sets : List (List Bool)) (t : State) : Type 0 where
  pub room : HasRoom s t.spot.sheet (offset_of t)
  pub growth : t.growth + GREATEST_RADIUS * left ≤ GREATEST_RADIUS * LONGEST_WAY
  pub set : t.dropped < length sets

pub record MayAsk (at : Scope) (left : ℕ) (t : State) (b : Build) : Type 0 where
  pub ready : IsReady at
  pub sound : IsSound at.scene.now at.names.now b
  pub there : t.spot.sheet < length at.scene.now.sheets
  pub ends : WaysEnd at.scene.now left t.spot
  pub state : IsState at.scene.now left b.sets.keys t

-- only what is not clear is entered
pub record MayEnter (at : Scope) (left : ℕ) (t : State) (b : Build) : Type 0 where
  pub ask : MayAsk at left t b
  pub seen : is_clear (state_expr at.scene.now at.names.now b.sets.keys t) ≡ false

-- no offset is told where no drawing stays, and no dropped style that doesn't count
abbrev pub IsInNormalForm : SceneRecord → List (List Bool) → State → Type 0
IsInNormalForm s sets t = IsNormal (stay_or (stay_at s t.spot)) (dropped_in sets t.dropped) (offset_of t)

-- different numbers stand for different sets of dropped styles
abbrev pub AreApart : List (List Bool) → Type 0
AreApart sets = (j k : ℕ) → j < length sets → k < length sets → dropped_in sets j ≡ dropped_in sets k → j ≡ k

-- a state that may be entered for an expression and a growth, and is in normal form
pub record StandsIn (at : Scope) (left : ℕ) (b : Build) (e : Expr) (g : ℕ) (t : State) : Type 0 where
  pub may : MayEnter at left t b
  pub expr : state_expr at.scene.now at.names.now b.sets.keys t ≡ e
  pub growth : t.growth ≡ g
  pub normal : IsInNormalForm at.scene.now b.sets.keys t

pub record MayStep (at : Scope) (left : ℕ) (t : State) (step : Step) (b : Build) : Type 0 where
  pub ask : MayAsk at left t b
  pub is : step ≡ step_of at.scene.now t.spot
  pub there : AreThere at.scene.now t.spot step
  pub bounded : IsBounded step
  pub seen : is_clear (stepped_expr at.scene.now at.names.now b.sets.keys t step) ≡ false

-- ---- what is entered

-- an expression was entered with all that it is made of, and the answer is its number; or there is too much of it
pub record Gives (at : Scope) (old new : Build) (e : Expr) (g : ℕ) (r : Result ℕ Stop) : Type 0 where
  pub entered : IfOk r (λ n. Enters old.entered new.entered e g n)
  pub grows : OnOk r (Grows at.scene.now at.names.now at.most old new)
  pub full : IsErrOf r Full → at.most < length (enter e g old.entered)

-- an expression was entered if it is not clear, and its number went last
pub record Adds (at : Scope) (old new : Build) (was now : List ℕ) (e : Expr) (g : ℕ) (r : Result (Unit {0}) Stop) : Type 0 where
  pub entered : OnOk r (new.entered ≡ enter_each (seen_down (e ∷ [])) g old.entered)
  pub numbers :
      OnOk r
      (All (IsAt old.entered g) was
      → All (IsAt new.entered g) now
      × (map (expr_at new.entered) now ≡ map (expr_at old.entered) was ++ seen_down (e ∷ [])))
  pub grows : OnOk r (Grows at.scene.now at.names.now at.most old new)
  pub full : IsErrOf r Full → at.most < length (enter_each (seen_down (e ∷ [])) g old.entered)

-- one expression was put, if it was not there
pub record GivesPut (most : ℕ) (old new : List Spread) (x : Spread) (r : Result ℕ Stop) : Type 0 where
  pub put : IfOk r (λ n. (new ≡ put x old) × (slice_get new n ≡ Some x))
  pub few : OnOk r (length old ≤ most)
  pub full : IsErrOf r Full → most < length old

-- expressions were put over a lowest one
pub record LaysOver (most : ℕ) (old new : List Spread) (es : List Expr) (lowest : Expr) (g : ℕ) (r : Result ℕ Stop) : Type 0 where
  pub put : IfOk r (λ n. (new ≡ put_over es lowest g old) × (slice_get new n ≡ Some (spread (laid_over es lowest) g)))
  pub few : OnOk r (length new ≤ max (length old) (most + 1))
  pub full : IsErrOf r Full → most < length (put_over es lowest g old)
