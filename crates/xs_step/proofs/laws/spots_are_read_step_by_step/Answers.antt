use Rattle.std.proofs.Common.{refl, ap}
use Rattle.xs_meaning.specs.Expressions.{by_offsets}
use Rattle.xs_meaning.specs.Extents.{by_extent}
use Rattle.xs_meaning.specs.RowValues.{by_points}
use Rattle.xs_step.proofs.Readings.{answer-step}
use Rattle.xs_step.proofs.laws.spots_are_read_step_by_step.Goals as goal

pub returns : goal.returns
returns c = record {
  points = λ s pictures ends p f q. ap (λ image. image q) (answer-step (by_points s pictures) s (λ o. unfold by_points in refl) ends p f);
  offsets = λ s ends p f o. ap (λ e. e o) (answer-step (by_offsets s) s (λ q. unfold by_offsets in refl) ends p f);
  extents = λ s ends p f. answer-step by_extent s (λ q. unfold by_extent in refl) ends p f;
}
