use Rattle.std.proofs.Common.{◌≤◌}
use Rattle.xs_dryrun.specs.Tile.{FilledTo}
use Rattle.xs_dryrun.proofs.fill.add_new.Given as goal

abbrev pub invariant-loop-j : goal.invariant-loop-j
invariant-loop-j l =
    record {
      behind : l.before ≤ l.j;
      filled : FilledTo l.fn.builder l.entered l.rows l.before l.j l.tile l.area l.builder;
    }
