-- How entered expressions are held: by keys whose inputs are numbers of what was entered before
use Rattle.std.specs.Prelude.{◌≡◌, ◌≢◌, ◌⊎◌, ◌+◌, ◌<◌, ◌^◌, ℕ, List, [], ◌∷◌, ◌++◌, Some, AllPairs, Contains, length, sum_by, slice_get, slice_index_or}
use Rattle.xs_pixel.specs.Channels.{Channels}
use Rattle.xs_pixel.specs.Points.{point}
use Rattle.xs_meaning.specs.Expressions.{Expr, Clear, Leaf, Tinted, Card, Pair, Blur}
use Rattle.xs_plan.specs.declared.job.Job.{Job}
use Rattle.xs_plan.specs.declared.job.Job.TheVariants as job
use Rattle.xs_demand.specs.Blocks.{Spread, spread, inputs_entered}
use Rattle.xs_alias.specs.declared.key.Key.{Key}
use Rattle.xs_alias.specs.declared.key.Key.TheVariants as key
use Rattle.xs_entered.specs.declared.place.Place.{Place}
use Rattle.xs_entered.specs.Entered.{spread_at, tints_entered}

-- the expression of a key, where numbers stand for what was entered
abbrev pub made : List (List Channels) → List Spread → Key → Expr
made tints l key.Clear = Clear
made tints l (key.Leaf drawing dx dy) = Leaf drawing (point dx dy)
made tints l (key.Tinted drawing dx dy tint) = Tinted drawing (point dx dy) (slice_index_or tints tint [])
made tints l (key.Card pixel) = Card pixel
made tints l (key.Pair op a b) = Pair op (spread_at l a).expr (spread_at l b).expr
made tints l (key.Blur a radius) = Blur radius (spread_at l a).expr

abbrev pub shows : List (List Channels) → List Spread → Place → Spread
shows tints l p = spread (made tints l p.key) p.growth

-- what places show, each over those before it, after others
abbrev pub shown_after : List (List Channels) → List Spread → List Place → List Spread
shown_after tints l [] = l
shown_after tints l (p ∷ places) = shown_after tints (l ++ shows tints l p ∷ []) places

abbrev pub shown : List (List Channels) → List Place → List Spread
shown tints places = shown_after tints [] places

-- a number below n is that of something with this growth
abbrev pub IsInput : List Spread → (n growth a : ℕ) → Type 0
IsInput l n growth a = (a < n) × ((spread_at l a).growth ≡ growth)

-- the inputs of a key were entered before the place n, each at its growth, and its tint is one of so many
abbrev pub IsFounded : ℕ → List Spread → (n growth : ℕ) → Key → Type 0
IsFounded tints l n growth key.Clear = Unit {0}
IsFounded tints l n growth (key.Leaf drawing dx dy) = Unit {0}
IsFounded tints l n growth (key.Tinted drawing dx dy tint) = tint < tints
IsFounded tints l n growth (key.Card pixel) = Unit {0}
IsFounded tints l n growth (key.Pair op a b) = IsInput l n growth a × IsInput l n growth b
IsFounded tints l n growth (key.Blur a radius) = IsInput l n (growth + radius) a

-- what a place shows stands in the list
pub record Stands (tints : List (List Channels)) (l : List Spread) (n : ℕ) (p : Place) : Type 0 where
  pub is : slice_get l n ≡ Some (shows tints l p)
  pub founded : IsFounded (length tints) l n p.growth p.key

-- the inputs of a key by their numbers
abbrev pub inputs_by : Key → List ℕ
inputs_by key.Clear = []
inputs_by (key.Leaf drawing dx dy) = []
inputs_by (key.Tinted drawing dx dy tint) = []
inputs_by (key.Card pixel) = []
inputs_by (key.Pair op a b) = a ∷ b ∷ []
inputs_by (key.Blur a radius) = a ∷ []

abbrev pub inputs_held : List Place → ℕ
inputs_held places = sum_by (λ p. length (inputs_by p.key)) places

-- a key without its inputs
abbrev pub job_by : Key → Job
job_by key.Clear = job.Clear
job_by (key.Leaf drawing dx dy) = job.Leaf drawing dx dy
job_by (key.Tinted drawing dx dy tint) = job.Tinted drawing dx dy tint
job_by (key.Card pixel) = job.Card pixel
job_by (key.Pair op a b) = job.Pair op
job_by (key.Blur a radius) = job.Blur radius

-- places, tints and a count hold what they show: all stands once, behind its inputs, and its tints are
-- those that there are
pub record IsHeld (tints : List (List Channels)) (places : List Place) (inputs : ℕ) : Type 0 where
  pub each : (n : ℕ) (p : Place) → slice_get places n ≡ Some p → Stands tints (shown tints places) n p
  pub apart : AllPairs (λ x y. x ≢ y) (shown tints places)
  pub differ : AllPairs (λ s t. s ≢ t) tints
  pub tints_are : tints ≡ tints_entered (shown tints places)
  pub inputs_are : inputs ≡ inputs_entered (shown tints places)
  pub counted : inputs ≡ inputs_held places
  pub few : length places < 2 ^ 31

-- a place was put last where it was not there, and stands at n
pub record IsPut (old new : List Place) (p : Place) (n : ℕ) : Type 0 where
  pub at : slice_get new n ≡ Some p
  pub grown : ((new ≡ old) × Contains old p) ⊎ ((new ≡ old ++ p ∷ []) × (Contains old p → ⊥))
