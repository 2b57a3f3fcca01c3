use Rattle.std.specs.Prelude.{◌≡◌, ◌<◌, ℕ, Bool, List, All, Contains, IsSome, IsTrue, length}
use Rattle.indexmap.specs.IndexMap.{get}
use Rattle.indexmap.specs.IndexSet.{contains}
use Rattle.xs_scene.specs.Records.{SceneRecord}
use Rattle.xs_step.specs.declared.spot.Spot.{Spot}
use Rattle.xs_check.specs.Good.{files_of}
use Rattle.xs_needs.specs.declared.found.Found.{Found}
use Rattle.xs_needs.specs.declared.found.Known.{Known}
use Rattle.xs_needs.specs.Shown.{drawings_at, is_clear_at}
use Rattle.xs_step.specs.Spots.{same_spot}

-- each flag says whether its spot is clear
abbrev pub AreRight : SceneRecord → List (Spot × Bool) → Type 0
AreRight s flags = All (λ e. e.1 ≡ is_clear_at s e.0) flags

-- all drawings of each spot are there
abbrev pub AreWhole : SceneRecord → List ℕ → List Spot → Type 0
AreWhole s drawings spots = All (λ p. All (Contains drawings) (drawings_at s p)) spots

-- what is remembered is so, and each drawing is the scene's
pub record IsSound (s : SceneRecord) (found : Found) : Type 0 where
  pub right : AreRight s found.known.flags.entries
  pub whole : AreWhole s found.gathered.drawings.keys found.gathered.whole.keys
  pub below : All (λ d. d < length (files_of s.levels)) found.gathered.drawings.keys

-- of each spot of which it was known whether it is clear, this is known still
abbrev pub KeepsFlags : Known → Known → Type 0
KeepsFlags old new = (p : Spot) → IsSome (get same_spot old.flags p) → IsSome (get same_spot new.flags p)

-- nothing that was noted is forgotten
pub record IsKept (old new : Found) : Type 0 where
  pub flags : KeepsFlags old.known new.known
  pub whole : (p : Spot) → IsTrue (contains same_spot old.gathered.whole p) → IsTrue (contains same_spot new.gathered.whole p)
