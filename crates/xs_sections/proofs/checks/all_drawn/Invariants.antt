use Rattle.std.proofs.Common.{◌<◌, ℕ}
use Rattle.xs_plan.specs.Record.{entry_at}
use Rattle.xs_bench.specs.Inputs.{HasDrawing}
use Rattle.xs_sections.proofs.checks.all_drawn.Given as goal

abbrev pub invariant-loop-k : goal.invariant-loop-k
invariant-loop-k g l = (k : ℕ) → k < l.k → HasDrawing l.d (entry_at l.p.entries k).job
