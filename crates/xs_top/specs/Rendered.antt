use Rattle.std.specs.Prelude.{◌≡◌, ℕ, ◌+◌, ◌*◌, ◌^◌, ◌<◌, ◌≤◌, pos, All, List, [], ◌∷◌, ◌++◌, length, slice_index_or, take, Option, None, Some, map}
use Rattle.std.specs.Option.{option_map}
use Rattle.xs_outside.specs.declared.object.Object.{Object}
use Rattle.serde_json.specs.Written.{compact_text}
use Rattle.xs_scene_json.specs.SceneData.{scene_data}
use Rattle.xs_outside.specs.Told.{more}
use Rattle.xs_scene.specs.Records.{SceneRecord}
use Rattle.xs_check.specs.Good.{IsGood}
use Rattle.xs_check.specs.Passes.{first_fault}
use Rattle.xs_pixel.specs.Channels.{Channels}
use Rattle.xs_pixel.specs.Picture.{Pictures, ArePixels}
use Rattle.xs_pixel.specs.Points.{point, plus}
use Rattle.xs_meaning.specs.RowValues.{row_of, camera_at, frame_of}
use Rattle.xs_meaning.specs.Tables.{ColumnsFollow, NodesFollow, RowsFollow}
use Rattle.xs_base.specs.Once.{each_once}
use Rattle.xs_top.specs.declared.status.Status.TheVariants as answers
use Rattle.xs_top.specs.Trace.{puts, lines, Contents}
use Rattle.xs_levels.specs.Films.{Files}
use Rattle.xs_top.specs.declared.limits.TheConstants.{MOST_SECTION_BYTES}
use Rattle.xs_top.specs.Drawings.{file_of}
use Rattle.xs_top.specs.Loads.{loads}
use Rattle.xs_meaning.specs.Expressions.{needed}
use Rattle.xs_base.specs.Sections.{rows_of}
use Rattle.xs_top.specs.Finished.{Says, AreAccepted, frames_of}
use Rattle.xs_lines.specs.Lines.{with_ends}
use Rattle.xs_dryrun.specs.declared.limits.What.{What}
use Rattle.xs_dryrun.specs.Passing.{what_of, greatest_of}
use Rattle.xs_top.specs.Demand.{limit_in, plan_in, demand_lines}
use Rattle.xs_make.specs.Scenes.{scene_from}
use Rattle.xs_top.specs.Generated.{made_frames, made_line, made_sum}
use Rattle.xs_top.specs.Outcome.{rendered_line, making}

-- ---- a render, without its steps

-- rows keep the limits: those of their demand, and at each drawing that of the bytes that are held
pub record AreWithin (files : Files) (s : SceneRecord) (from to : ℕ) : Type 0 where
  pub demand : limit_in s from to ≡ None
  pub sections : All (λ load. load.1 ≤ MOST_SECTION_BYTES) (loads files s from to)

-- rows are rendered whole: the library was asked for a scene and then, once, for each drawing that its rows
-- need; the scene has no fault, its rows keep the limits, and each of these drawings is there without a fault; the
-- shelf gained exactly the frames of the rows, in order; and one line tells how many rows, aliases and reads they are
pub record IsRendered (files : Files) (name base : List ℕ) (from to : ℕ) (before now : Contents) : Type 0 where
  pub scene : SceneRecord
  pub says : Says files name scene
  pub faultless : first_fault scene ≡ None
  pub within : AreWithin files scene from to
  pub accepted : AreAccepted files scene (rows_of from to)
  pub asked : now.asked ≡ more before.asked (name ∷ map (file_of scene) (each_once (needed scene (rows_of from to))))
  pub frames : now.shelf ≡ more before.shelf (frames_of files scene base (rows_of from to))
  pub line : now.notes ≡ more before.notes (rendered_line (plan_in scene from to) ++ 10 ∷ [])

-- the shelf gained frames of the rows from the first on, and nothing else; where no file says a scene, nothing
pub record GainedFrames (files : Files) (name base : List ℕ) (from to : ℕ) (before now : Option (List Object)) : Type 0 where
  pub some :
      (s : SceneRecord) → Says files name s →
      (rows : ℕ) × (now ≡ more before (take rows (frames_of files s base (rows_of from to))))
  pub none : ((s : SceneRecord) → Says files name s → ⊥) → now ≡ before

-- the rows of a scene show what the rules give. The scene is good, so that all walks over it end; its pictures are
-- pixels; the values of its columns, nodes and rows are those of the tables; and a frame has for each point that
-- the camera sees, row by row and each from left to right, the pixel of the row there
pub record ShowsTheRules (s : SceneRecord) (pictures : Pictures) : Type 0 where
  pub good : IsGood s
  pub pixels : ArePixels pictures
  pub columns : ColumnsFollow s pictures
  pub nodes : NodesFollow s pictures
  pub rows : RowsFollow s pictures
  pub count : (row : ℕ) → length (frame_of s pictures row) ≡ s.camera.h * s.camera.w
  pub order :
      (row x y : ℕ) (outside : Channels) → x < s.camera.w → y < s.camera.h
      → slice_index_or (frame_of s pictures row) (y * s.camera.w + x) outside
      ≡ row_of s pictures 0 row (plus (point (pos x) (pos y)) (camera_at s row))

-- ---- a scene that is shown

-- the library was asked for the scene, which has no fault, and its text in format 2 is written
pub record IsShown (files : Files) (name : List ℕ) (before now : Contents) : Type 0 where
  pub scene : SceneRecord
  pub says : Says files name scene
  pub faultless : first_fault scene ≡ None
  pub asked : now.asked ≡ more before.asked (name ∷ [])
  pub line : now.notes ≡ more before.notes (compact_text (scene_data (record scene { format = 2 })) ++ 10 ∷ [])

-- ---- a demand that is told

-- the library was asked for the scene, which has no fault and whose rows pass no limit, and a line for each alias of
-- the plan of these rows was written, and one for all
pub record IsDemanded (files : Files) (name : List ℕ) (from to : ℕ) (before now : Contents) : Type 0 where
  pub scene : SceneRecord
  pub says : Says files name scene
  pub faultless : first_fault scene ≡ None
  pub within : limit_in scene from to ≡ None
  pub asked : now.asked ≡ more before.asked (name ∷ [])
  pub lines : now.notes ≡ more before.notes (with_ends (demand_lines (plan_in scene from to)))

-- this is the limit that the rows of a scene without a fault pass first
pub record PassesLimit (files : Files) (name : List ℕ) (from to : ℕ) (what : What) (limit : ℕ) : Type 0 where
  pub scene : SceneRecord
  pub says : Says files name scene
  pub faultless : first_fault scene ≡ None
  pub passed : option_map what_of (limit_in scene from to) ≡ Some what
  pub greatest : limit ≡ greatest_of what

-- the notes gained a front part of these lines, and nothing where no file says a scene
pub record GainedLines (files : Files) (name : List ℕ) (from to : ℕ) (before now : Option (List ℕ)) : Type 0 where
  pub some :
      (s : SceneRecord) → Says files name s
      → (bytes : ℕ) × (now ≡ more before (take bytes (with_ends (demand_lines (plan_in s from to)))))
  pub none : ((s : SceneRecord) → Says files name s → ⊥) → now ≡ before

-- ---- a generated scene that is rendered

-- it ends well, with its frames and one line, and their sum is a number of 64 bits
pub record RendersWhole (seed rows : ℕ) : Type 0 where
  pub ends : (making seed rows).status ≡ answers.Ok
  pub frames : puts (making seed rows).work ≡ made_frames seed rows
  pub line :
      lines (making seed rows).work ≡ made_line seed (plan_in (scene_from seed rows) 1 rows) (made_sum seed rows) ++ 10 ∷ []
  pub small : made_sum seed rows < 2 ^ 64

-- the shelf gained exactly the frames of the rows, in order, one line tells the sum of their pixels, and nothing was
-- asked for
pub record IsMade (seed rows : ℕ) (before now : Contents) : Type 0 where
  pub asked : now.asked ≡ before.asked
  pub frames : now.shelf ≡ more before.shelf (made_frames seed rows)
  pub line :
      now.notes ≡ more before.notes (made_line seed (plan_in (scene_from seed rows) 1 rows) (made_sum seed rows) ++ 10 ∷ [])
