use Rattle.std.specs.Prelude.{ℕ, ◌+◌, ◌-◌, ◌*◌, ◌/◌, min, List, map, flat_map}
use Rattle.xs_base.specs.declared.limits.TheConstants.{SECTION_ROWS}
use Rattle.std.specs.List.{range_with_len}

-- the rows from the first to the last
abbrev pub rows_of : ℕ → ℕ → List ℕ
rows_of from to = range_with_len from (to + 1 - from)

-- the rows of a section, counted from 0; the last section has those that are left
abbrev pub section_rows : ℕ → ℕ → ℕ → List ℕ
section_rows from to section =
    range_with_len (from + SECTION_ROWS * section) (min (to + 1 - (from + SECTION_ROWS * section)) SECTION_ROWS)

-- how many sections there are
abbrev pub sections_in : ℕ → ℕ → ℕ
sections_in from to = (to - from) / SECTION_ROWS + 1

-- the sections of a range of rows
unfoldable pub sections_of : ℕ → ℕ → List (List ℕ)
sections_of from to = map (section_rows from to) (range_with_len 0 (sections_in from to))

-- the rows of the first sections
abbrev pub rows_before : ℕ → ℕ → ℕ → List ℕ
rows_before from to sections = flat_map (section_rows from to) (range_with_len 0 sections)
