-- What the readers of a checked scene rest on.
use Rattle.std.specs.Prelude.{◌≡◌, ◌≤◌, ◌<◌, ◌+◌, ◌^◌, ℕ, List, [], Some, Contains, length, take, sum_by, slice_get, slice_index, slice_index_or}
use Rattle.xs_scene.specs.declared.column.Shown.TheVariants.{Drawing as ShowsDrawing}
use Rattle.xs_scene.specs.declared.seen.Seen.{Seen}
use Rattle.xs_scene.specs.declared.seen.Seen.TheVariants.{Empty, Drawing, Row}
use Rattle.xs_scene.specs.Records.{SceneRecord, LevelRecord}
use Rattle.xs_meaning.specs.Drawings.{level_of}
use Rattle.xs_index.specs.declared.index.Index.{Index}
use Rattle.xs_index.specs.Index.{IsIndexOf}
use Rattle.xs_check.specs.Good.{IsGood, IsThere, files_of}

-- what a column is seen to show is there: the level and the drawing, or the sheet, of which a row is shown
abbrev pub IsSeen : SceneRecord → Seen → Type 0
IsSeen s Empty = Unit {0}
IsSeen s (Drawing level index) = IsThere s (ShowsDrawing level index)
IsSeen s (Row sheet row) = (sheet < length s.sheets) × (1 ≤ row)

-- how many drawings stand before a level
abbrev pub drawings_before : List LevelRecord → ℕ → ℕ
drawings_before levels level = sum_by (λ l. length l.drawings) (take level levels)

-- the first so many levels are numbered: `firsts` has the number of the first drawing of each, and
-- `owners` the level of each drawing
pub record IsNumbering (levels : List LevelRecord) (numbered : ℕ) (firsts owners : List ℕ) : Type 0 where
  pub firsts_length : length firsts ≡ numbered
  pub owners_length : length owners ≡ drawings_before levels numbered
  pub first : (level : ℕ) → level < numbered → slice_index firsts level ≡ drawings_before levels level
  pub owner :
      (d : ℕ) → d < length owners
      → (slice_index owners d < numbered)
      × (drawings_before levels (slice_index owners d) ≤ d)
      × (d < drawings_before levels (slice_index owners d + 1))

-- a drawing by the level that has it and its place in the level's list
pub record IsOwner (levels : List LevelRecord) (d place : ℕ) (owner : LevelRecord) : Type 0 where
  pub level : level_of levels d ≡ Some owner
  pub among : Contains levels owner
  pub inside : place < length owner.drawings
  pub file : slice_get (files_of levels) d ≡ Some (slice_index_or owner.drawings place [])

-- what is kept with a checked scene
pub record IsKept (s : SceneRecord) (index : Index) (firsts owners : List ℕ) : Type 0 where
  pub good : IsGood s
  pub index_of : IsIndexOf s index
  pub numbering : IsNumbering s.levels (length s.levels) firsts owners
  pub few : length owners < 2 ^ 32
