-- Where the ways from spot to spot end
use Rattle.std.specs.Prelude.{ℕ, zero, suc, All}
use Rattle.xs_scene.specs.Records.{SceneRecord}
use Rattle.xs_step.specs.declared.spot.Spot.{Spot}
use Rattle.xs_step.specs.declared.step.Step.{Step}
use Rattle.xs_step.specs.declared.step.Step.TheVariants.{Clear, Drawing, Nested, Same, Keep, Delete, Pair, Blur, Card, Over}
use Rattle.xs_step.specs.Spots.{input_spot}
use Rattle.xs_step.specs.Steps.{step_of}

-- P holds of each spot that a step from a spot leads to
abbrev pub LeadsTo : (Spot → Type 0) → Spot → Step → Type 0
LeadsTo P p Clear = Unit {0}
LeadsTo P p (Drawing level index offset) = Unit {0}
LeadsTo P p (Nested row offset) = P row
LeadsTo P p (Same next) = P next
LeadsTo P p (Keep next styles) = P next
LeadsTo P p (Delete next styles) = P next
LeadsTo P p (Pair op first second) = P first × P second
LeadsTo P p (Blur radius next) = P next
LeadsTo P p (Card style) = Unit {0}
LeadsTo P p (Over terminals) = All (λ t. P (input_spot p.sheet t p.row)) terminals

-- each way from a spot, step by step, has at most so many spots, itself counted
unfoldable pub WaysEnd : SceneRecord → ℕ → Spot → Type 0
WaysEnd s zero p = ⊥
WaysEnd s (suc n) p = LeadsTo (WaysEnd s n) p (step_of s p)
