use Rattle.std.proofs.Common.{ℕ, Option, unwrap_or, sym, ap, ◌∙◌}
use Rattle.xs_meaning.specs.Expressions.{reach_of}
use Rattle.xs_meaning.specs.Palettes.{none_dropped}
use Rattle.xs_meaning.specs.RowValues.{camera_at}
use Rattle.xs_pixel.specs.Points.{opposite}
use Rattle.xs_step.specs.declared.spot.At.TheVariants.{Row}
use Rattle.xs_step.specs.declared.spot.Spot.{Spot}
use Rattle.xs_step.specs.Spots.{spot}
use Rattle.xs_extent.specs.Extent.{extent_at}
use Rattle.xs_build.proofs.Roots.{root-answer}
use Rattle.xs_build.proofs.root.reach.Goals as goal

pub returns : goal.returns
returns c =
    let s = c.args.s.now in
    c.unwrap_or.ensures
    ∙ ap (λ (o : Option ℕ). unwrap_or o 0)
    (c.in_ok-extent.ensures.extent ∙ ap (λ (p : Spot). extent_at s p) c.row.ensures)
    ∙ sym (c.extents_know_neither_offset_nor_filters.ensures.reach s (spot 0 Row c.args.row) none_dropped (opposite (camera_at s c.args.row)))
    ∙ ap reach_of (root-answer s c.args.row)
