use Rattle.std.proofs.Common.{◌≡◌, is_none, unwrap_or, ap, ◌∙◌}
use Rattle.xs_scene.specs.Records.{SceneRecord}
use Rattle.xs_meaning.specs.Expressions.{by_offsets, is_clear, reach_of}
use Rattle.xs_meaning.specs.Extents.{by_extent}
use Rattle.xs_meaning.specs.Palettes.{Dropped}
use Rattle.xs_pixel.specs.Points.{Point}
use Rattle.xs_step.specs.declared.spot.At.{At}
use Rattle.xs_step.specs.declared.spot.At.TheVariants.{Row, Input}
use Rattle.xs_step.specs.declared.spot.Spot.{Spot}
use Rattle.xs_step.specs.Readings.{answer_in, answer_at}
use Rattle.xs_extent.proofs.SpotExtents.{answer-any_dropped, extent-step}
use Rattle.xs_extent.proofs.laws.extents_know_neither_offset_nor_filters.Goals as goal

pub returns-clause-clear : goal.returns-clause-clear
unfolding answer_at
returns-clause-clear c = λ s p f o. by_place s p f o p.at ∙ ap is_none (answer-any_dropped s p f)
  where
    by_place : (s : SceneRecord) (p : Spot) (f : Dropped) (o : Point) (at : At)
        → is_clear (answer_in (by_offsets s) s p.sheet at p.row f o) ≡ is_none (answer_in by_extent s p.sheet at p.row f)
    by_place s p f o Row = c.clear_and_reach_know_no_offset.ensures.clear_rows s p.sheet p.row f o
    by_place s p f o (Input n) = c.clear_and_reach_know_no_offset.ensures.clear_inputs s p.sheet n p.row f o

pub returns-clause-reach : goal.returns-clause-reach
unfolding answer_at
returns-clause-reach c = λ s p f o. by_place s p f o p.at ∙ ap (λ e. unwrap_or e 0) (answer-any_dropped s p f)
  where
    by_place : (s : SceneRecord) (p : Spot) (f : Dropped) (o : Point) (at : At)
        → reach_of (answer_in (by_offsets s) s p.sheet at p.row f o) ≡ unwrap_or (answer_in by_extent s p.sheet at p.row f) 0
    by_place s p f o Row = c.clear_and_reach_know_no_offset.ensures.reach_of_rows s p.sheet p.row f o
    by_place s p f o (Input n) = c.clear_and_reach_know_no_offset.ensures.reach_of_inputs s p.sheet n p.row f o

pub returns-clause-steps : goal.returns-clause-steps
returns-clause-steps c = extent-step
