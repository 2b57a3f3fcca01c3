use Rattle.std.proofs.Common.{refl, arith}
use Rattle.std.proofs.lemmas.Grind.{common_steps}
use Rattle.xs_outside.specs.Told.{more}
use Rattle.xs_host.proofs.out_notes.OutNotesNotes.line.Goals as goal

pub returns-then-is_err-clause-answer : goal.returns-then-is_err-clause-answer
unfolding more
returns-then-is_err-clause-answer g c = (grind (arith, common_steps), (0, refl))
