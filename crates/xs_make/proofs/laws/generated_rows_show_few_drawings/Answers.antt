use Rattle.xs_make.proofs.FewAliases.{root_drawings}
use Rattle.xs_make.proofs.laws.generated_rows_show_few_drawings.Goals as goal

pub returns : goal.returns
returns c = root_drawings
