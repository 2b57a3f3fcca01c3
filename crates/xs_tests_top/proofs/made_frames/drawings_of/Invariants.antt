use Rattle.std.proofs.Common.{◌≡◌, length}
use Rattle.xs_tests_top.specs.declared.made_frames.TheConstants.{MOST_FILES}
use Rattle.xs_tests_top.proofs.made_frames.drawings_of.Given as goal

abbrev pub invariant-loop-d : goal.invariant-loop-d
invariant-loop-d l = record {
  slots : length l.drawings.slots ≡ MOST_FILES;
  palettes : length l.drawings.palettes ≡ 1;
}
