use Rattle.std.proofs.Common.{◌≡◌, ◌≤◌, ◌+◌, length}
use Rattle.xs_base.specs.declared.limits.TheConstants.{MOST_COLUMNS}
use Rattle.xs_step.specs.Terminals.{columns_on}
use Rattle.xs_step.proofs.terminals.Terminals.first_on.Given as goal

abbrev pub invariant-loop-first : goal.invariant-loop-first
invariant-loop-first l =
    record {
      numbers : l.next + length l.rest ≤ MOST_COLUMNS;
      same : columns_on l.number l.fn.columns ≡ columns_on l.next l.rest;
    }

abbrev pub decreases-loop-first : goal.decreases-loop-first
decreases-loop-first l = length l.rest
