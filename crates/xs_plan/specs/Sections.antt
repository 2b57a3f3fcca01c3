-- In which section of rows an alias comes first, and how long it is read
use Rattle.std.specs.Prelude.{ℕ, ◌/◌, ◌==◌, nat_le, nat_lt, Bool, ◌&&◌, List, length, filter, count_by}
use Rattle.std.specs.List.{range_with_len, list_any}
use Rattle.std.specs.Int.{div_ceil}
use Rattle.xs_base.specs.declared.limits.TheConstants.{SECTION_ROWS}
use Rattle.xs_plan.specs.declared.job.Edge.{Edge}
use Rattle.xs_plan.specs.declared.job.Reader.{Reader}
use Rattle.xs_plan.specs.declared.job.Reader.TheVariants.{Port, Root}
use Rattle.xs_plan.specs.Record.{PlanRecord, rows_in}
use Rattle.xs_plan.specs.Reads.{edges}

-- how many sections there are
abbrev pub sections_in : PlanRecord → ℕ
sections_in p = div_ceil (rows_in p) SECTION_ROWS

-- the row after which an alias is there: so many rows end before it
abbrev pub first_row : PlanRecord → ℕ → ℕ
first_row p k = count_by (λ end. nat_le end k) p.ends

-- the section in which an alias comes first
abbrev pub first_section : PlanRecord → ℕ → ℕ
first_section p k = first_row p k / SECTION_ROWS

-- the section of a read: that in which its reader comes first, or that of its row
abbrev pub section_of : PlanRecord → Reader → ℕ
section_of p (Port alias port) = first_section p alias
section_of p (Root row tile) = row / SECTION_ROWS

-- whether a read reads an alias in a later section
abbrev pub reads_after : PlanRecord → ℕ → ℕ → Edge → Bool
reads_after p s k e = e.source == k && nat_lt s (section_of p e.reader)

-- whether an alias is live after a section: it has come by then, and a later section reads it
abbrev pub is_live_after : PlanRecord → ℕ → ℕ → Bool
is_live_after p s k = nat_le (first_section p k) s && list_any (reads_after p s k) (edges p)

-- the aliases that are live after a section
abbrev pub live_after : PlanRecord → ℕ → List ℕ
live_after p s = filter (is_live_after p s) (range_with_len 0 (length p.entries))
