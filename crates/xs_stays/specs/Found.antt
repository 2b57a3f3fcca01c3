-- What is remembered of what stays
use Rattle.std.specs.Prelude.{◌≡◌, ◌<◌, ◌≤◌, ℕ, Bool, Option, Some, None, List, [], All, length, slice_index_or}
use Rattle.std.specs.Map.{lookup}
use Rattle.xs_scene.specs.Records.{SceneRecord}
use Rattle.xs_step.specs.declared.spot.Spot.{Spot}
use Rattle.xs_step.specs.Spots.{same_spot}
use Rattle.xs_stays.specs.declared.found.Found.{Found}
use Rattle.xs_stays.specs.declared.found.Remembered.{Remembered}
use Rattle.xs_stays.specs.Sets.{styles_in}
use Rattle.xs_stays.specs.Stays.{Stay, stay_at}

-- what is remembered of a spot
abbrev pub found_at : Spot → List (Spot × Option Found) → Option (Option Found)
found_at p known = lookup (same_spot p) known

-- the styles of the set with a number
abbrev pub styles_of : List (List Bool) → ℕ → ℕ → Bool
styles_of sets k = styles_in (slice_index_or sets k [])

-- what was found, with its set of styles by the set's number
abbrev pub stay_of : List (List Bool) → Option Found → Option Stay
stay_of sets None = None
stay_of sets (Some found) = Some (record { drawing = found.drawing; counts = styles_of sets found.styles })

abbrev pub HasSet : List (List Bool) → Option Found → Type 0
HasSet sets None = Unit {0}
HasSet sets (Some found) = found.styles < length sets

-- this was found
pub record IsFound (sets : List (List Bool)) (found : Option Found) (stay : Option Stay) : Type 0 where
  pub within : HasSet sets found
  pub is : stay_of sets found ≡ stay

-- what is remembered of spots is so
abbrev pub AreRight : SceneRecord → Remembered → Type 0
AreRight s r = All (λ e. IsFound r.sets.keys e.1 (stay_at s e.0)) r.known.entries

-- sets of styles keep their numbers
pub record KeepsSets (old new : List (List Bool)) : Type 0 where
  pub more : length old ≤ length new
  pub same : (k : ℕ) → k < length old → slice_index_or new k [] ≡ slice_index_or old k []

-- more sets have numbers, and nothing else was remembered
pub record Numbers (old new : Remembered) : Type 0 where
  pub known : new.known.entries ≡ old.known.entries
  pub kept : KeepsSets old.sets.keys new.sets.keys
