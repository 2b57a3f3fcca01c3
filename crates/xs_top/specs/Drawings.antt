-- The drawings of a scene
use Rattle.std.specs.Prelude.{ℕ, ◌&&◌, nat_le, Bool, false, List, length, sum_by, Option, if◌then◌else◌}
use Rattle.std.specs.List.{range_with_len}
use Rattle.std.specs.Option.{option_map_or}
use Rattle.xs_base.specs.Listed.{is_listed}
use Rattle.xs_pixel.specs.Picture.{Pictures}
use Rattle.xs_rawfile.specs.declared.fault.LevelCode.{LevelCode}
use Rattle.xs_scene.specs.declared.level.Kind.{Kind}
use Rattle.xs_scene.specs.Records.{SceneRecord}
use Rattle.xs_check.specs.Good.{files_of}
use Rattle.xs_plan.specs.Record.{PlanRecord}
use Rattle.xs_plan.specs.Needed.{needs_before, last_section_of, picture_bytes}
use Rattle.xs_levels.specs.Films as films
use Rattle.xs_levels.specs.Films.{Files}
use Rattle.xs_levels.specs.Table as table
use Rattle.xs_levels.specs.Table.{table_of}

-- the name of a drawing's file, and its kind
abbrev pub file_of : SceneRecord → ℕ → List ℕ
file_of s d = table.file_of (table_of s) d

abbrev pub kind_of : SceneRecord → ℕ → Kind
kind_of s d = table.kind_of (table_of s) d

-- the pictures of a scene's drawings: those whose files are there and have no fault
abbrev pub pictures_of : Files → SceneRecord → Pictures
pictures_of files s = films.pictures_of files (table_of s)

-- the fault of the file of a drawing, where it has one: it is absent, too long, or its bytes have one
abbrev pub fault_of : Files → SceneRecord → ℕ → Option LevelCode
fault_of files s d = films.fault_of files (table_of s) d

-- the bytes of a drawing, four for each pixel
abbrev pub bytes_of : Files → SceneRecord → ℕ → ℕ
bytes_of files s d = picture_bytes (pictures_of files s d)

-- whether a drawing is held over into a section of a plan: a section before it needs it, and this one or a later one does
abbrev pub is_held_over : PlanRecord → ℕ → ℕ → Bool
is_held_over p section d =
    is_listed (needs_before p section) d && option_map_or (λ last. nat_le section last) (last_section_of p d) false

-- the bytes of the drawings that are held over into a section
unfoldable pub bytes_held_over : Files → SceneRecord → PlanRecord → ℕ → ℕ
bytes_held_over files s p section =
    sum_by (λ d. if is_held_over p section d then bytes_of files s d else 0) (range_with_len 0 (length (files_of s.levels)))
