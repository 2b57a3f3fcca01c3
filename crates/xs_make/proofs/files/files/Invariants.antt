use Rattle.std.proofs.Common.{◌≡◌, ◌+◌, ◌*◌, ◌∷◌, map}
use Rattle.std.specs.List.{range_with_len}
use Rattle.xs_make.specs.Draws.{state_after}
use Rattle.xs_make.specs.Files.{background_from, background_name, cel_file, file_of}
use Rattle.xs_make.proofs.files.files.Given as goal

abbrev pub invariant-loop-m : goal.invariant-loop-m
invariant-loop-m l =
    record {
      files : l.files.items ≡ file_of background_name (background_from l.fn.draws) ∷ map (cel_file l.fn.draws) (range_with_len 0 l.m);
      draws : l.draws ≡ state_after l.fn.draws (24576 + 12290 * l.m);
    }
