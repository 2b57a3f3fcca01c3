use Rattle.std.proofs.Common.{◌≡◌, None, replicate}
use Rattle.xs_plan.proofs.last.no_sections.Given as goal

abbrev pub invariant-loop-drawing : goal.invariant-loop-drawing
invariant-loop-drawing l = l.sections.items ≡ replicate l._drawing None
