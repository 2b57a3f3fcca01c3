-- Frames of rows, one after another.
use Rattle.std.proofs.Common.{◌≡◌, ℕ, ◌+◌, ◌-◌, ◌<◌, ◌≤◌, List, [], ◌∷◌, refl, ap, ◌∙◌}
use Rattle.std.specs.List.{range_with_len}
use Rattle.xs_raster.specs.Bitmap.{bitmap}
use Rattle.xs_rawfile.specs.Frame.{frame_file_of}
use Rattle.xs_scene.specs.Records.{SceneRecord}
use Rattle.xs_pixel.specs.Picture.{Pictures}
use Rattle.xs_meaning.specs.RowValues.{frame_of}
use Rattle.xs_render.specs.Scenes.{area_of}
use Rattle.xs_top.specs.Trace.{Outcome}
use Rattle.xs_top.specs.Frames.{frame_at, frame_file}
use Rattle.xs_top.specs.Outcome.{placing, placing_rows}
use Rattle.xs_top.proofs.RowRanges.{range_next, range_over}

pub placing_none : (s : SceneRecord) (pictures : Pictures) (base : List ℕ) (next : Outcome) → placing_rows s pictures base [] next ≡ next
unfolding placing_rows
placing_none s pictures base next = refl

pub placing_first : (s : SceneRecord) (pictures : Pictures) (base : List ℕ) (row : ℕ) (rows : List ℕ) (next : Outcome)
    → placing_rows s pictures base (row ∷ rows) next ≡ placing (frame_at s pictures base row) (placing_rows s pictures base rows next)
unfolding placing_rows
placing_first s pictures base row rows next = refl

-- the frame of a row, and then those of the rows behind it
pub placing_row : (s : SceneRecord) (pictures : Pictures) (base : List ℕ) (first rows i : ℕ) (next : Outcome) → i < rows
    → placing_rows s pictures base (range_with_len (first + i) (rows - i)) next
    ≡ placing (frame_at s pictures base (first + i)) (placing_rows s pictures base (range_with_len (first + (i + 1)) (rows - (i + 1))) next)
placing_row s pictures base first rows i next within =
    ap (λ l. placing_rows s pictures base l next) (range_next first rows i within) ∙ placing_first s pictures base _ _ next

pub placing_over : (s : SceneRecord) (pictures : Pictures) (base : List ℕ) (first rows i : ℕ) (next : Outcome) → rows ≤ i
    → placing_rows s pictures base (range_with_len (first + i) (rows - i)) next ≡ next
placing_over s pictures base first rows i next past =
    ap (λ l. placing_rows s pictures base l next) (range_over first rows i past) ∙ placing_none s pictures base next

-- the bytes of the frame of a row
pub frame_file_is : (s : SceneRecord) (pictures : Pictures) (row : ℕ)
    → frame_file s pictures row ≡ frame_file_of (bitmap (area_of s) (frame_of s pictures row))
unfolding frame_file
frame_file_is s pictures row = refl
