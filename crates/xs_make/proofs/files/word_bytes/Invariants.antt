use Rattle.std.proofs.Common.{◌≡◌, ◌*◌}
use Rattle.xs_make.specs.Draws.{state_after}
use Rattle.xs_make.specs.Files.{word_bytes}
use Rattle.xs_make.proofs.files.word_bytes.Given as goal

abbrev pub invariant-loop-word : goal.invariant-loop-word
invariant-loop-word l =
    record {
      bytes : l.bytes.items ≡ word_bytes l.initial.draws l._word;
      draws : l.draws ≡ state_after l.initial.draws (3 * l._word);
    }
