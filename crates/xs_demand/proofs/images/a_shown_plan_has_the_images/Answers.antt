use Rattle.xs_demand.proofs.PlanImages.{shown-image, root-image}
use Rattle.xs_demand.proofs.images.a_shown_plan_has_the_images.Goals as goal

pub returns : goal.returns
returns c =
    let ends = c.clear_pixels_at_the_end_tell_nothing.ensures.pixels in
    record { aliases = shown-image ends; roots = root-image ends }
