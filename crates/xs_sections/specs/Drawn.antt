-- The drawings of a plan
use Rattle.std.specs.Prelude.{ℕ}
use Rattle.xs_rawfile.specs.Held.{Held}
use Rattle.xs_plan.specs.Record.{PlanRecord, entry_at}
use Rattle.xs_bench.specs.Inputs.{HasDrawing}

-- each alias has its drawing
abbrev pub AreAllDrawn : PlanRecord → Held → Type 0
AreAllDrawn p held = (k : ℕ) → HasDrawing held (entry_at p.entries k).job
