use Rattle.std.specs.Prelude.{◌≡◌, ℕ, ◌<◌, ◌≤◌, List, length, None, Some, true, false}
use Rattle.xs_outside.specs.declared.object.Object.{Object}
use Rattle.xs_base.specs.Listed.{is_listed}
use Rattle.xs_base.specs.Sections.{section_rows, sections_in, rows_before}
use Rattle.xs_base.specs.declared.limits.TheConstants.{SCENE_LIMIT, DRAWING_LIMIT}
use Rattle.xs_meaning.specs.Expressions.{needed}
use Rattle.xs_rawfile.specs.Level.{first_fault}
use Rattle.xs_rawfile.specs.declared.fault.LevelCode.{LevelCode}
use Rattle.xs_rawfile.specs.declared.fault.LevelCode.TheVariants as level
use Rattle.xs_scene.specs.Records.{SceneRecord}
use Rattle.xs_levels.specs.Films.{Files}
use Rattle.xs_levels.specs.Table.{raw_kind_of}
use Rattle.xs_top.specs.Drawings.{file_of, kind_of}
use Rattle.xs_top.specs.Finished.{frames_of}

-- a file is longer than a scene may be
abbrev pub IsTooLong : Files → List ℕ → Type 0
IsTooLong files name = (bytes : List ℕ) × (files name ≡ Some bytes) × (SCENE_LIMIT < length bytes)

-- the file of a drawing is refused with this code: it is not there, it is too long, or it has this fault first
abbrev pub IsRefused : Files → SceneRecord → ℕ → LevelCode → Type 0
IsRefused files s d level.Absent = files (file_of s d) ≡ None
IsRefused files s d level.TooLong =
    (bytes : List ℕ) × (files (file_of s d) ≡ Some bytes) × (DRAWING_LIMIT < length bytes)
IsRefused files s d code =
    (bytes : List ℕ) × (files (file_of s d) ≡ Some bytes) × (length bytes ≤ DRAWING_LIMIT)
    × (first_fault (raw_kind_of (kind_of s d)) bytes ≡ Some code)

-- the file of a drawing is asked for when exactly the frames of the sections before the first one that needs it
-- stand on the shelf
pub record IsAskedBehind (files : Files) (s : SceneRecord) (base : List ℕ) (from to : ℕ) (asked : List ℕ) (objects : List Object) : Type 0 where
  pub drawing : ℕ
  pub section : ℕ
  pub within : section < sections_in from to
  pub named : asked ≡ file_of s drawing
  pub needs : is_listed (needed s (section_rows from to section)) drawing ≡ true
  pub first : is_listed (needed s (rows_before from to section)) drawing ≡ false
  pub frames : objects ≡ frames_of files s base (rows_before from to section)
