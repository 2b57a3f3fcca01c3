use Rattle.xs_make.proofs.Ranged.{in_range}
use Rattle.xs_make.proofs.laws.generated_scenes_are_in_range.Goals as goal

pub returns : goal.returns
returns c = in_range
