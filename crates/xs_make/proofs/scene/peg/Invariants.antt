use Rattle.std.proofs.Common.{◌≡◌, ◌*◌, map}
use Rattle.std.specs.List.{range_with_len}
use Rattle.xs_make.specs.Draws.{state_after}
use Rattle.xs_make.specs.Scenes.{key_from}
use Rattle.xs_make.proofs.scene.peg.Given as goal

abbrev pub invariant-loop-n : goal.invariant-loop-n
invariant-loop-n l =
    record {
      keys : l.keys.items ≡ map (key_from l.initial.draws) (range_with_len 0 l.n);
      draws : l.draws ≡ state_after l.initial.draws (2 * l.n);
    }
