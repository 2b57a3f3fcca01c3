use Rattle.xs_cm32.proofs.Mixes.{colour_of-ink, colour_of-paint}
use Rattle.xs_cm32.proofs.word.pure_tones.Goals as goal

pub returns-clause-ink : goal.returns-clause-ink
returns-clause-ink c = colour_of-ink

pub returns-clause-paint : goal.returns-clause-paint
returns-clause-paint c = colour_of-paint
