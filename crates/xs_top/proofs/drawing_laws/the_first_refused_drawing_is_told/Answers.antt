use Rattle.xs_top.proofs.Refusals.{refusal_told, refusal_asked}
use Rattle.xs_top.proofs.drawing_laws.the_first_refused_drawing_is_told.Goals as goal

pub returns : goal.returns
returns c = record {
  told = λ files name base s from to d code says good none. refusal_told files name base s from to says good none d code;
  asked = λ files name base s from to d code says good none. refusal_asked files name base s from to says good none d code;
}
