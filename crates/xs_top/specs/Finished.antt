use Rattle.std.specs.Prelude.{◌≡◌, ℕ, ◌≤◌, List, length, None, Some, Ok, true, map}
use Rattle.xs_outside.specs.declared.object.Object.{Object}
use Rattle.xs_rawfile.specs.Level.{first_fault}
use Rattle.xs_scene.specs.Records.{SceneRecord}
use Rattle.xs_scene_json.specs.SceneText.{scene_of}
use Rattle.xs_base.specs.Listed.{is_listed}
use Rattle.xs_base.specs.declared.limits.TheConstants.{SCENE_LIMIT, DRAWING_LIMIT}
use Rattle.xs_levels.specs.Films.{Files}
use Rattle.xs_levels.specs.Table.{raw_kind_of}
use Rattle.xs_top.specs.Frames.{frame_at}
use Rattle.xs_top.specs.Drawings.{file_of, kind_of, pictures_of}
use Rattle.xs_meaning.specs.Expressions.{needed}

-- a file of a library says this scene
pub record Says (files : Files) (name : List ℕ) (s : SceneRecord) : Type 0 where
  pub bytes : List ℕ
  pub there : files name ≡ Some bytes
  pub short : length bytes ≤ SCENE_LIMIT
  pub text : scene_of bytes ≡ Ok s

-- the file of a drawing is there and has no fault
pub record IsAccepted (files : Files) (s : SceneRecord) (d : ℕ) : Type 0 where
  pub bytes : List ℕ
  pub there : files (file_of s d) ≡ Some bytes
  pub short : length bytes ≤ DRAWING_LIMIT
  pub faultless : first_fault (raw_kind_of (kind_of s d)) bytes ≡ None

-- so are those of each drawing that rows need
abbrev pub AreAccepted : Files → SceneRecord → List ℕ → Type 0
AreAccepted files s rows = (d : ℕ) → is_listed (needed s rows) d ≡ true → IsAccepted files s d

-- the frames of rows
abbrev pub frames_of : Files → SceneRecord → List ℕ → List ℕ → List Object
frames_of files s base rows = map (frame_at s (pictures_of files s) base) rows
