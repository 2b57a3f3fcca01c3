-- The two parts of the line of an alias, which are written apart
use Rattle.std.specs.Prelude.{◌≡◌, ◌≤◌, ◌-◌, ℕ, List, ◌++◌, length, drop, codes, decimal}
use Rattle.xs_plan.specs.Record.{PlanRecord, entry_at}
use Rattle.xs_plan.specs.Reads.{readers_of}
use Rattle.xs_plan.specs.Values.{input_at}
use Rattle.xs_lines.specs.Lines.{job_text, rect_text}

-- the head: the number of the alias, and its job
unfoldable pub head_text : PlanRecord → ℕ → List ℕ
head_text p k =
    let e = entry_at p.entries k in
    decimal k ++ codes ": " ++ job_text e.job (input_at e.inputs 0) (input_at e.inputs 1)

-- the tail: its rectangle, and how often it is read
unfoldable pub tail_text : PlanRecord → ℕ → List ℕ
tail_text p k = codes "; tile " ++ rect_text (entry_at p.entries k).rect ++ codes "; readers " ++ decimal (readers_of p k)

-- so many last bytes of a text are this tail
pub record EndsWith (text : List ℕ) (count : ℕ) (tail : List ℕ) : Type 0 where
  pub within : count ≤ length text
  pub ends : drop (length text - count) text ≡ tail
