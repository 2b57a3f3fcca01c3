-- Sections, and what they need.
use Rattle.std.proofs.Common.{◌≡◌, ℕ, ◌+◌, ◌-◌, ◌<◌, ◌≤◌, List, [], ◌∷◌, ◌++◌, map, flat_map, refl, sym, ap, ◌∙◌, arith}
use Rattle.std.specs.List.{range_with_len}
use Rattle.std.proofs.lemmas.List.{append-nil}
use Rattle.std.proofs.lemmas.Grind.{flat_map-append}
use Rattle.xs_base.specs.Once.{fresh}
use Rattle.xs_base.specs.Sections.{section_rows, sections_in, sections_of, rows_before}
use Rattle.xs_levels.specs.Films.{Files}
use Rattle.xs_meaning.specs.Expressions.{drawings_of, root_of, needed}
use Rattle.xs_plan.specs.Record.{PlanRecord}
use Rattle.xs_scene.specs.Records.{SceneRecord}
use Rattle.xs_top.specs.Drawings.{pictures_of, bytes_held_over}
use Rattle.xs_top.specs.Outcome.{loading, placing_rows, rendering_section, rendering_sections}
use Rattle.xs_top.specs.Trace.{Outcome}
use Rattle.xs_top.proofs.RowRanges.{range_next, range_over, range-append}

-- ---- a section

pub section_is : (files : Files) (s : SceneRecord) (base : List ℕ) (p : PlanRecord) (n : ℕ) (earlier rows : List ℕ) (next : Outcome)
    → rendering_section files s base p n earlier rows next ≡ loading files s (bytes_held_over files s p n) (fresh (needed s earlier) (needed s rows))
    (placing_rows s (pictures_of files s) base rows next)
unfolding rendering_section
section_is files s base p n earlier rows next = refl

pub sections_first : (files : Files) (s : SceneRecord) (base : List ℕ) (p : PlanRecord) (n : ℕ) (earlier rows : List ℕ) (sections : List (List ℕ)) (next : Outcome)
    → rendering_sections files s base p n earlier (rows ∷ sections) next ≡ rendering_section files s base p n earlier rows
    (rendering_sections files s base p (n + 1) (earlier ++ rows) sections next)
unfolding rendering_sections
sections_first files s base p n earlier rows sections next = refl

pub sections_none : (files : Files) (s : SceneRecord) (base : List ℕ) (p : PlanRecord) (n : ℕ) (earlier : List ℕ) (next : Outcome)
    → rendering_sections files s base p n earlier [] next ≡ next
unfolding rendering_sections
sections_none files s base p n earlier next = refl

pub sections_are : (from to : ℕ) → sections_of from to ≡ map (section_rows from to) (range_with_len 0 (sections_in from to))
unfolding sections_of
sections_are from to = refl

-- the rows of the sections up to the next one
pub rows_before_more : (from to i : ℕ) → rows_before from to (i + 1) ≡ rows_before from to i ++ section_rows from to i
rows_before_more from to i =
    let next : 0 + i ≡ i = omega arith in
    ap (flat_map (section_rows from to)) (sym (range-append 0 i 1))
    ∙ (flat_map-append (section_rows from to) (range_with_len 0 i) ((0 + i) ∷ [])
    ∙ ap (λ rest. rows_before from to i ++ rest) (append-nil _ ∙ ap (section_rows from to) next))

pub needed_before : (s : SceneRecord) (from to i : ℕ)
    → needed s (rows_before from to (i + 1)) ≡ needed s (rows_before from to i) ++ needed s (section_rows from to i)
needed_before s from to i =
    ap (needed s) (rows_before_more from to i)
    ∙ flat_map-append (λ row. drawings_of (root_of s row)) (rows_before from to i) (section_rows from to i)

-- a section, and then those behind it
pub section_step : (files : Files) (s : SceneRecord) (base : List ℕ) (p : PlanRecord) (from to n i : ℕ) (next : Outcome) → i < n
    → rendering_sections files s base p i (rows_before from to i) (map (section_rows from to) (range_with_len (0 + i) (n - i))) next
    ≡ rendering_section files s base p i (rows_before from to i) (section_rows from to i)
    (rendering_sections files s base p (i + 1) (rows_before from to (i + 1)) (map (section_rows from to) (range_with_len (0 + (i + 1)) (n - (i + 1)))) next)
section_step files s base p from to n i next within =
    let here : 0 + i ≡ i = omega arith in
    let later = map (section_rows from to) (range_with_len (0 + (i + 1)) (n - (i + 1))) in
    ap (λ l. rendering_sections files s base p i (rows_before from to i) (map (section_rows from to) l) next) (range_next 0 n i within)
    ∙ (sections_first files s base p i (rows_before from to i) (section_rows from to (0 + i)) later next
    ∙
    (ap (λ k. rendering_section files s base p i (rows_before from to i) (section_rows from to k) (rendering_sections files s base p (i + 1) (rows_before from to i ++ section_rows from to k) later next)) here
    ∙ ap
    (λ l. rendering_section files s base p i (rows_before from to i) (section_rows from to i) (rendering_sections files s base p (i + 1) l later next))
    (sym (rows_before_more from to i))))

pub sections_over : (files : Files) (s : SceneRecord) (base : List ℕ) (p : PlanRecord) (section : ℕ) (earlier : List ℕ) (from to n i : ℕ) (next : Outcome) → n ≤ i
    → rendering_sections files s base p section earlier (map (section_rows from to) (range_with_len (0 + i) (n - i))) next ≡ next
sections_over files s base p section earlier from to n i next past =
    ap (λ l. rendering_sections files s base p section earlier (map (section_rows from to) l) next) (range_over 0 n i past) ∙ sections_none files s base p section earlier next
