-- The rows of a section, one after another, and the sections of a plan.
use Rattle.std.proofs.Common.{◌≡◌, ℕ, ◌+◌, ◌-◌, ◌*◌, ◌<◌, ◌≤◌, List, [], map, length, min, refl, ap, ap₂, ◌∙◌, subst, arith}
use Rattle.std.proofs.Math.Nat.{min_comm}
use Rattle.std.specs.List.{range_with_len}
use Rattle.xs_base.specs.declared.limits.TheConstants.{SECTION_ROWS}
use Rattle.xs_base.specs.Once.{fresh}
use Rattle.xs_base.specs.Sections.{rows_of, section_rows, rows_before}
use Rattle.xs_base.specs.Sections.{sections_in as sections_of_rows}
use Rattle.xs_demand.specs.Shown.{ShowsRoots}
use Rattle.xs_levels.specs.Films.{Files}
use Rattle.xs_meaning.specs.Expressions.{root_of, needed}
use Rattle.xs_plan.specs.Needed.{new_drawings}
use Rattle.xs_plan.specs.Record.{PlanRecord, rows_in}
use Rattle.xs_plan.specs.Sections.{sections_in}
use Rattle.xs_plan.specs.Valid.{IsPlan}
use Rattle.xs_rect.specs.Area.{Area}
use Rattle.xs_rect.specs.Tiles.{tile_areas}
use Rattle.xs_render.specs.Scenes.{ShowsScene}
use Rattle.xs_pixel.specs.Picture.{Pictures}
use Rattle.xs_scene.specs.Records.{SceneRecord}
use Rattle.xs_top.specs.Once.{NoneTwice}
use Rattle.xs_top.specs.Trace.{Outcome}
use Rattle.xs_top.specs.Frames.{frame_at}
use Rattle.xs_top.specs.Outcome.{placing, placing_rows, loading, rendering_section}
use Rattle.xs_top.specs.Drawings.{pictures_of, bytes_held_over}
use Rattle.xs_top.proofs.Placed.{placing_row}

-- the rows of a section of a plan of so many rows
pub section_rows_are : (from to s n : ℕ) → from + n ≡ to + 1
    → section_rows from to s ≡ range_with_len (from + s * SECTION_ROWS) (min SECTION_ROWS (n - s * SECTION_ROWS))
section_rows_are from to s n all =
    let place : from + SECTION_ROWS * s ≡ from + s * SECTION_ROWS = omega arith in
    let left : to + 1 - (from + SECTION_ROWS * s) ≡ n - s * SECTION_ROWS = omega arith in
    ap₂ range_with_len place (ap (λ few. min few SECTION_ROWS) left ∙ min_comm _ _)

-- the frame of a row of a section, and then those of the rows behind it
pub placing_next : (s : SceneRecord) (pictures : Pictures) (base : List ℕ) (from section rows i : ℕ) (next : Outcome) → i < rows
    → placing_rows s pictures base (range_with_len ((from + section * SECTION_ROWS) + i) (rows - i)) next
    ≡ placing (frame_at s pictures base (from + (section * SECTION_ROWS + i)))
    (placing_rows s pictures base (range_with_len ((from + section * SECTION_ROWS) + (i + 1)) (rows - (i + 1))) next)
placing_next s pictures base from section rows i next within =
    let place : (from + section * SECTION_ROWS) + i ≡ from + (section * SECTION_ROWS + i) = omega arith in
    placing_row s pictures base (from + section * SECTION_ROWS) rows i next within
    ∙ ap (λ row. placing (frame_at s pictures base row) (placing_rows s pictures base (range_with_len ((from + section * SECTION_ROWS) + (i + 1)) (rows - (i + 1))) next)) place

-- a section: its new drawings are loaded over the bytes that are held, and then its frames are put on the shelf
pub section_loads : (files : Files) (s : SceneRecord) (base : List ℕ) (p : PlanRecord) (section bytes : ℕ) (earlier rows news : List ℕ) (next : Outcome)
    → bytes ≡ bytes_held_over files s p section → news ≡ fresh (needed s earlier) (needed s rows)
    → rendering_section files s base p section earlier rows next
    ≡ loading files s bytes news (placing_rows s (pictures_of files s) base rows next)
unfolding rendering_section
section_loads files s base p section bytes earlier rows news next held new = rw (← held, ← new) refl

-- so many rows from one on are those up to the last
pub rows_are : (from to n : ℕ) → from + n ≡ to + 1 → rows_of from to ≡ range_with_len from n
rows_are from to n all = let count : to + 1 - from ≡ n = omega arith in ap (range_with_len from) count

-- the drawings that a section of a scene's plan is the first to need are those that its rows need and no earlier row needs
abbrev pub NeedsByRows : Type 0
NeedsByRows =
    (s : SceneRecord) (from to : ℕ) (tiles : List Area) (p : PlanRecord) → ShowsRoots tiles (map (root_of s) (rows_of from to)) p
    → 0 < length tiles → (n : ℕ) → new_drawings p n ≡ fresh (needed s (rows_before from to n)) (needed s (section_rows from to n))

pub news_are : NeedsByRows → (s : SceneRecord) (from to n : ℕ) (p : PlanRecord) → ShowsScene s from (rows_in p) p → IsPlan p → from + rows_in p ≡ to + 1
    → new_drawings p n ≡ fresh (needed s (rows_before from to n)) (needed s (section_rows from to n))
news_are law s from to n p shows plan all =
    let tiles : 0 < length (tile_areas s.camera.w s.camera.h) = subst (λ (t : List Area). 0 < length t) shows.frame (omega (arith, plan.few_tiles.0)) in
    let rows : ShowsRoots (tile_areas s.camera.w s.camera.h) (map (root_of s) (rows_of from to)) p = rw (rows_are from to (rows_in p) all) shows in
    law s from to (tile_areas s.camera.w s.camera.h) p rows tiles n

-- a plan of so many rows has the sections of the rows
abbrev pub SectionsByRows : Type 0
SectionsByRows =
    (s : SceneRecord) (from to : ℕ) (p : PlanRecord) → from ≤ to → ShowsScene s from (to + 1 - from) p → sections_in p ≡ sections_of_rows from to

pub sections_many : SectionsByRows → (s : SceneRecord) (from to : ℕ) (p : PlanRecord) → from ≤ to → ShowsScene s from (rows_in p) p → from + rows_in p ≡ to + 1
    → sections_in p ≡ sections_of_rows from to
sections_many law s from to p ordered shows all =
    let count : to + 1 - from ≡ rows_in p = omega arith in
    law s from to p ordered (rw count shows)

-- a bench that computed nothing computed nothing twice
pub recorded_none : (computed : List ℕ) → computed ≡ [] → NoneTwice computed
recorded_none computed none k = rw none (omega arith)
