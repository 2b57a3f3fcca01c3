use Rattle.xs_top.proofs.Asking.{asked_first, asked_behind_sections}
use Rattle.xs_top.proofs.drawing_laws.drawings_are_asked_for_in_their_section.Goals as goal

pub returns : goal.returns
returns c = record {
  scene = asked_first;
  drawing = λ files name base s from to says done rest asked e. asked_behind_sections files s base from to name says done rest asked e;
}
