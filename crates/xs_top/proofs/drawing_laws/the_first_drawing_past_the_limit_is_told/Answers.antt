use Rattle.xs_top.proofs.Refusals.{limit_told}
use Rattle.xs_top.proofs.drawing_laws.the_first_drawing_past_the_limit_is_told.Goals as goal

pub returns : goal.returns
returns c = λ files name base s from to limit says good none. limit_told files name base s from to says good none limit
