use Rattle.std.proofs.Common.{◌≡◌}
use Rattle.xs_make.specs.Draws.{state_after}
use Rattle.xs_make.specs.Files.{grey_bytes}
use Rattle.xs_make.proofs.files.grey_bytes.Given as goal

abbrev pub invariant-loop-pixel : goal.invariant-loop-pixel
invariant-loop-pixel l =
    record {
      bytes : l.bytes.items ≡ grey_bytes l.initial.draws l._pixel;
      draws : l.draws ≡ state_after l.initial.draws l._pixel;
    }
