use Rattle.std.proofs.Common.{◌≡◌}
use Rattle.xs_make.specs.Draws.{state_after}
use Rattle.xs_make.specs.Scenes.{cells_from}
use Rattle.xs_make.proofs.scene.column.Given as goal

abbrev pub invariant-loop-j : goal.invariant-loop-j
invariant-loop-j l =
    record {
      cells : l.cells.items ≡ cells_from l.initial.draws l.rows l.level l.j;
      draws : l.draws ≡ state_after l.initial.draws l.j;
    }
