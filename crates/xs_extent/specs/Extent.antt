-- How far spots look, whatever their offsets and filters
use Rattle.std.specs.Prelude.{◌≡◌, ℕ, Option, List, All}
use Rattle.std.specs.Map.{lookup}
use Rattle.xs_meaning.specs.Extents.{by_extent}
use Rattle.xs_meaning.specs.Palettes.{none_dropped}
use Rattle.xs_scene.specs.Records.{SceneRecord}
use Rattle.xs_step.specs.declared.spot.Spot.{Spot}
use Rattle.xs_step.specs.declared.step.Step.{Step}
use Rattle.xs_step.specs.Spots.{same_spot}
use Rattle.xs_step.specs.Readings.{answer_at, step_by}

-- how far beyond a point a spot looks through its blurs, in pixels; None where it is clear
unfoldable pub extent_at : SceneRecord → Spot → Option ℕ
extent_at s p = answer_at by_extent s p none_dropped

-- how far a step from a spot looks, over how far other spots do
abbrev pub extent_by : SceneRecord → Spot → Step → Option ℕ
extent_by s p step = step_by by_extent (λ q f. extent_at s q) p none_dropped step

-- what is remembered of a spot
abbrev pub found : Spot → List (Spot × Option ℕ) → Option (Option ℕ)
found p known = lookup (same_spot p) known

-- what is remembered of spots is so
abbrev pub AreRight : SceneRecord → List (Spot × Option ℕ) → Type 0
AreRight s known = All (λ e. e.1 ≡ extent_at s e.0) known
