use Rattle.xs_pixel.proofs.Boxes.{place_below}
use Rattle.xs_pixel.proofs.laws.points_of_a_box_have_places.Goals as goal

pub returns : goal.returns
returns c = place_below
