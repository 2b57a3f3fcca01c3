use Rattle.xs_make.specs.Scenes.{sheet_state}
use Rattle.xs_make.proofs.Faultless.{no_fault}
use Rattle.xs_make.proofs.laws.generated_scenes_have_no_fault.Goals as goal

pub returns : goal.returns
returns c = λ seed rows. no_fault seed (sheet_state seed) rows
