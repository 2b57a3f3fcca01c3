-- Lemmas on the rows and sections of a scene's plan
use Rattle.std.proofs.Common.{◌≡◌, ◌<◌, ◌≤◌, ◌+◌, ◌*◌, ◌-◌, min, ℕ, length, map, get_or, sym, ◌∙◌, arith}
use Rattle.std.specs.List.{range_with_len}
use Rattle.std.proofs.lemmas.List.{ext_get_or}
use Rattle.std.proofs.lemmas.List.FromFn.{get_or-map-range_with_len, length-map-range_with_len, get_or-range_with_len, length-range_with_len}
use Rattle.xs_base.specs.declared.limits.TheConstants.{SECTION_ROWS}
use Rattle.xs_base.specs.Sections.{section_rows}
use Rattle.xs_base.specs.Sections.{sections_in as sections_of_rows}
use Rattle.xs_plan.specs.Record.{PlanRecord, rows_in}
use Rattle.xs_plan.specs.Sections.{sections_in}
use Rattle.xs_render.specs.Progress.{row_at, rows_of_section}

pub same_sections : (from to : ℕ) (p : PlanRecord) → from ≤ to → rows_in p ≡ to + 1 - from → sections_in p ≡ sections_of_rows from to
same_sections from to p some rows = omega (arith, some, rows)

pub same_rows : (from to : ℕ) (p : PlanRecord) (n : ℕ) → from ≤ to → rows_in p ≡ to + 1 - from
    → section_rows from to n ≡ map (λ i. from + row_at n i) (range_with_len 0 (rows_of_section p n))
same_rows from to p n some rows =
    ext_get_or 0 (section_rows from to n) (map (λ i. from + row_at n i) (range_with_len 0 (rows_of_section p n)))
    (long ∙ sym (length-map-range_with_len (λ i. from + row_at n i) 0 (rows_of_section p n))) at
  where
    many : min (to + 1 - (from + SECTION_ROWS * n)) SECTION_ROWS ≡ rows_of_section p n
    many = omega (arith, some, rows)

    long : length (section_rows from to n) ≡ rows_of_section p n
    long = length-range_with_len (from + SECTION_ROWS * n) (min (to + 1 - (from + SECTION_ROWS * n)) SECTION_ROWS) ∙ many

    at : (i : ℕ) → i < length (section_rows from to n)
        → get_or (section_rows from to n) i 0 ≡ get_or (map (λ i. from + row_at n i) (range_with_len 0 (rows_of_section p n))) i 0
    at i within =
        let there : i < rows_of_section p n = omega (arith, within, long) in
        let here = get_or-range_with_len (from + SECTION_ROWS * n) (min (to + 1 - (from + SECTION_ROWS * n)) SECTION_ROWS) i 0 (omega (arith, there, many)) in
        let same : from + SECTION_ROWS * n + i ≡ from + row_at n i = omega arith in
        here ∙ same ∙ sym (get_or-map-range_with_len (λ i. from + row_at n i) 0 (rows_of_section p n) i i 0 there (omega arith))
