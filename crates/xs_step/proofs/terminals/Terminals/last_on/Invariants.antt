use Rattle.std.proofs.Common.{◌≡◌, ◌≤◌, ◌+◌, length}
use Rattle.xs_base.specs.declared.limits.TheConstants.{MOST_COLUMNS}
use Rattle.xs_step.specs.Terminals.{columns_on}
use Rattle.xs_step.proofs.terminals.Terminals.last_on.Given as goal

abbrev pub invariant-loop-last : goal.invariant-loop-last
invariant-loop-last l =
    record {
      numbers : l.number + length l.rest ≤ MOST_COLUMNS;
      same : columns_on l.number l.fn.columns ≡ columns_on l.number l.rest;
    }

abbrev pub decreases-loop-last : goal.decreases-loop-last
decreases-loop-last l = length l.rest
