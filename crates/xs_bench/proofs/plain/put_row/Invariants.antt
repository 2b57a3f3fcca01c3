use Rattle.xs_plan.specs.Record.{entry_at}
use Rattle.xs_bench.specs.Inputs.{made_image}
use Rattle.xs_bench.specs.Shows.{ShowsPart}
use Rattle.xs_bench.proofs.Inputs.{lent}
use Rattle.xs_bench.proofs.plain.put_row.Given as goal

abbrev pub invariant-loop-column : goal.invariant-loop-column
invariant-loop-column g l =
    ShowsPart (entry_at l.p.entries l.k).rect (made_image l.d l.p l.k (lent l.a) (lent l.b)) l.row l.column l.to
