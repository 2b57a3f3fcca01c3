-- What a spot is read as, and what a step is read as over other spots
use Rattle.std.specs.Prelude.{ℕ, map}
use Rattle.xs_scene.specs.Records.{SceneRecord}
use Rattle.xs_meaning.specs.Palettes.{Dropped, keeping, deleting}
use Rattle.xs_meaning.specs.Walk.{Interpretation, composed_by, whole_row, whole_input}
use Rattle.xs_step.specs.declared.spot.At.{At}
use Rattle.xs_step.specs.declared.spot.At.TheVariants.{Row, Input}
use Rattle.xs_step.specs.declared.spot.Spot.{Spot}
use Rattle.xs_step.specs.declared.step.Step.{Step}
use Rattle.xs_step.specs.declared.step.Step.TheVariants.{Clear, Drawing, Nested, Same, Keep, Delete, Pair, Blur, Card, Over}
use Rattle.xs_step.specs.Spots.{input_spot}

-- the answers for spots, by dropped styles
abbrev pub SpotAnswers : Type 0 → Type 0
SpotAnswers A = Spot → Dropped → A

abbrev pub answer_in : {A : Type 0} → Interpretation A → SceneRecord → ℕ → At → ℕ → Dropped → A
answer_in R s k Row row f = whole_row R s.sheets k row f
answer_in R s k (Input n) row f = whole_input R s.sheets k n row f

-- what a spot is read as
unfoldable pub answer_at : {A : Type 0} → Interpretation A → SceneRecord → SpotAnswers A
answer_at R s p f = answer_in R s p.sheet p.at p.row f

-- what a step from a spot is read as, over the answers for other spots
abbrev pub step_by : {A : Type 0} → Interpretation A → SpotAnswers A → Spot → Dropped → Step → A
step_by R E p f Clear = R.nothing
step_by R E p f (Drawing level index offset) = R.moved offset (R.drawing level index p.row f)
step_by R E p f (Nested row offset) = R.moved offset (E row f)
step_by R E p f (Same next) = E next f
step_by R E p f (Keep next styles) = E next (keeping styles f)
step_by R E p f (Delete next styles) = E next (deleting styles f)
step_by R E p f (Pair op first second) = R.pair op (E first f) (E second f)
step_by R E p f (Blur radius next) = R.blur radius (E next f)
step_by R E p f (Card style) = R.card style
step_by R E p f (Over terminals) = composed_by R (map (λ t. E (input_spot p.sheet t p.row) f) terminals)
