use Rattle.xs_demand.proofs.ColouredImages.{image-is_value}
use Rattle.xs_demand.proofs.images.written_pictures_have_the_values.Goals as goal

pub returns : goal.returns
returns c = image-is_value
