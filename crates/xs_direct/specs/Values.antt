use Rattle.std.specs.Prelude.{ℕ, List, fold, slice_index_or}
use Rattle.xs_pixel.specs.Channels.{Channels, clear}
use Rattle.xs_pixel.specs.Operations.{over_of}
use Rattle.xs_scene.specs.declared.node.Ref.{Ref}
use Rattle.xs_scene.specs.Records.{SheetRecord}
use Rattle.xs_meaning.specs.Drawings.{drawing_pixel, colouring_at, no_colours}
use Rattle.xs_meaning.specs.Palettes.{Colouring, Dropped, style_at}
use Rattle.xs_pixel.specs.Images.{Image}
use Rattle.xs_meaning.specs.RowValues.{by_points}
use Rattle.xs_meaning.specs.Walk.{Interpretation, sheet_at, walk, row_walk}
use Rattle.xs_step.specs.declared.spot.At.{At}
use Rattle.xs_step.specs.declared.spot.At.TheVariants.{Row, Input}
use Rattle.xs_step.specs.declared.spot.Spot.{Spot}
use Rattle.xs_step.specs.Readings.{SpotAnswers}
use Rattle.xs_direct.specs.Filters.{dropped_of}
use Rattle.xs_direct.specs.Pictures.{pictures_in}
use Rattle.xs_direct.specs.declared.walk.Walk.{Walk}

-- the sheet in which a walk stands, and the styles that are dropped on the way to it
abbrev pub sheet_in : {K : Type 0} → Walk K → SheetRecord
sheet_in w = sheet_at w.scene.now.sheets w.spot.sheet

abbrev pub dropped_in : {K : Type 0} → Walk K → Dropped
dropped_in w = dropped_of w.filters.now

-- its scene as it looks, with the drawings that are held
abbrev pub points_in : {K : Type 0} → Walk K → Interpretation Image
points_in w = by_points w.scene.now (pictures_in w.drawings.now)

-- the answer for a spot, through at most so many nested sheets, and columns and nodes of its sheet
abbrev pub answer_within : Interpretation Image → List SheetRecord → (depth below k : ℕ) → At → (row : ℕ) → Dropped → Image
answer_within R sheets depth below k Row row f = row_walk R sheets depth k row f
answer_within R sheets depth below k (Input n) row f = walk R (row_walk R sheets depth) (sheet_at sheets k) below n row f

-- the answers for spots, as far as a walk may still go
abbrev pub answers_in : {K : Type 0} → Walk K → SpotAnswers Image
answers_in w p f = answer_within (points_in w) w.scene.now.sheets w.depth w.below p.sheet p.at p.row f

-- the image of the spot where it stands
unfoldable pub image_in : {K : Type 0} → Walk K → Image
image_in w = answers_in w w.spot (dropped_in w)

-- that of a drawing there
abbrev pub drawing_shown : {K : Type 0} → Walk K → ℕ → Image
drawing_shown w d = drawing_pixel (pictures_in w.drawings.now d) (colouring_at w.scene.now d w.spot.row (dropped_in w))

-- the pixel that a palette there gives each style
abbrev pub style_in : {K : Type 0} → Walk K → ℕ → Colouring
style_in w palette = style_at (slice_index_or w.scene.now.palettes palette no_colours) w.spot.row (dropped_in w)

-- the pixels of terminals laid over one another, the first one lowest
abbrev pub stack_of : (Ref → Channels) → List Ref → Channels
stack_of val terminals = fold (λ was t. over_of (val t) was) clear terminals
