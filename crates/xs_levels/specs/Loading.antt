-- What loading a section answers
use Rattle.std.specs.Prelude.{◌≡◌, ◌<◌, ◌≤◌, ◌+◌, ◌⊎◌, ℕ, List, [], ◌∷◌, map, take, length, sum_by, slice_get, Option, Some, None, Result, Ok, Err, Bool, true, false}
use Rattle.xs_outside.specs.Told.{Rose, more}
use Rattle.xs_pixel.specs.Picture.{Pictures}
use Rattle.xs_plan.specs.Needed.{picture_bytes}
use Rattle.xs_rawfile.specs.declared.fault.LevelCode.{LevelCode}
use Rattle.xs_rawfile.specs.declared.fault.LevelCode.TheVariants as code
use Rattle.xs_levels.specs.declared.loaded.Loaded.{Loaded}
use Rattle.xs_levels.specs.declared.loaded.Loaded.TheVariants as loaded
use Rattle.xs_levels.specs.declared.loaded.Refusal.{Refusal}
use Rattle.xs_levels.specs.declared.loaded.Refusal.TheVariants as refusal
use Rattle.xs_levels.specs.Table.{TableRecord, file_of}
use Rattle.xs_levels.specs.Films.{Files, pictures_of, fault_of}

-- the bytes that are held once so many of a list of drawings are, over those that are held already
abbrev pub bytes_after : Files → TableRecord → ℕ → List ℕ → ℕ → ℕ
bytes_after files t over news count = over + sum_by (λ d. picture_bytes (pictures_of files t d)) (take count news)

-- so many of a list of drawings have no fault, and are within the limit with what is held already
pub record Passed (files : Files) (t : TableRecord) (limit over : ℕ) (news : List ℕ) (count : ℕ) : Type 0 where
  pub faultless : (at d : ℕ) → at < count → slice_get news at ≡ Some d → fault_of files t d ≡ None
  pub within : bytes_after files t over news count ≤ limit

-- ---- the answers, where the library tells its files: at the first drawing that has a fault or passes the limit

abbrev pub IsLoaded : Files → TableRecord → (limit over : ℕ) → List ℕ → Loaded → Type 0
IsLoaded files t limit over news loaded.Done = Passed files t limit over news (length news)
IsLoaded files t limit over news (loaded.Level at drawing code) =
    Passed files t limit over news at × (slice_get news at ≡ Some drawing) × (fault_of files t drawing ≡ Some code)
IsLoaded files t limit over news (loaded.Limit at drawing) =
    Passed files t limit over news at × (slice_get news at ≡ Some drawing) × (fault_of files t drawing ≡ None)
    × (limit < bytes_after files t over news (at + 1))
IsLoaded files t limit over news (loaded.ReadFault at) = Passed files t limit over news at × (at < length news)
IsLoaded files t limit over news (loaded.Memory at) = Passed files t limit over news at × (at < length news)

-- the place of an answer is one in the list, and the drawing is the one there
abbrev pub StopsIn : List ℕ → Loaded → Type 0
StopsIn news loaded.Done = Unit {0}
StopsIn news (loaded.Level at drawing code) = slice_get news at ≡ Some drawing
StopsIn news (loaded.Limit at drawing) = slice_get news at ≡ Some drawing
StopsIn news (loaded.ReadFault at) = at < length news
StopsIn news (loaded.Memory at) = at < length news

-- ---- the names that are asked for

abbrev pub names_of : TableRecord → List ℕ → List (List ℕ)
names_of t drawings = map (file_of t) drawings

-- each drawing before the place of an answer and the one at it, once and in order; want of memory may come
-- before the last is asked for
abbrev pub AsksFor : TableRecord → List ℕ → (before now : Option (List (List ℕ))) → Loaded → Type 0
AsksFor t news before now loaded.Done = now ≡ more before (names_of t news)
AsksFor t news before now (loaded.Level at drawing code) = now ≡ more before (names_of t (take (at + 1) news))
AsksFor t news before now (loaded.Limit at drawing) = now ≡ more before (names_of t (take (at + 1) news))
AsksFor t news before now (loaded.ReadFault at) = now ≡ more before (names_of t (take (at + 1) news))
AsksFor t news before now (loaded.Memory at) =
    (now ≡ more before (names_of t (take at news))) ⊎ (now ≡ more before (names_of t (take (at + 1) news)))

-- ---- the library's faults

-- the codes of a file that is not there or too long
abbrev pub is_lost : LevelCode → Bool
is_lost code.Absent = true
is_lost code.TooLong = true
is_lost _ = false

-- a drawing that is refused with this code: it is lost in a library that tells no files only with a fault,
-- and any other code leaves the count of faults
pub record IsLossOf (files : Option Files) (before now : ℕ) (code : LevelCode) : Type 0 where
  pub untold : files ≡ None → is_lost code ≡ true → Rose before now
  pub still : is_lost code ≡ false → now ≡ before

-- the count of faults rose where reading failed, and at the other answers none was passed over
abbrev pub HadFaults : Option Files → (before now : ℕ) → Loaded → Type 0
HadFaults files before now loaded.Done = now ≡ before
HadFaults files before now (loaded.Level at drawing code) = IsLossOf files before now code
HadFaults files before now (loaded.Limit at drawing) = now ≡ before
HadFaults files before now (loaded.ReadFault at) = Rose before now
HadFaults files before now (loaded.Memory at) = now ≡ before

-- ---- one drawing

-- why a drawing may be refused, where files are told: over so many bytes that are held already
abbrev pub IsRefused : Files → TableRecord → (limit over : ℕ) → ℕ → Refusal → Type 0
IsRefused files t limit over d (refusal.Level code) = fault_of files t d ≡ Some code
IsRefused files t limit over d refusal.Limit =
    (fault_of files t d ≡ None) × (limit < over + picture_bytes (pictures_of files t d))
IsRefused files t limit over d refusal.ReadFault = Unit {0}
IsRefused files t limit over d refusal.Memory = Unit {0}

-- a name is asked for once; want of memory may come before
abbrev pub AsksOnce : {A : Type 0} → List ℕ → (before now : Option (List (List ℕ))) → Result A Refusal → Type 0
AsksOnce name before now (Ok value) = now ≡ more before (name ∷ [])
AsksOnce name before now (Err (refusal.Level code)) = now ≡ more before (name ∷ [])
AsksOnce name before now (Err refusal.Limit) = now ≡ more before (name ∷ [])
AsksOnce name before now (Err refusal.ReadFault) = now ≡ more before (name ∷ [])
AsksOnce name before now (Err refusal.Memory) = (now ≡ before) ⊎ (now ≡ more before (name ∷ []))

-- the count of faults rose where reading failed, and in no other case was one passed over
abbrev pub HadFault : {A : Type 0} → Option Files → (before now : ℕ) → Result A Refusal → Type 0
HadFault files before now (Ok value) = now ≡ before
HadFault files before now (Err (refusal.Level code)) = IsLossOf files before now code
HadFault files before now (Err refusal.Limit) = now ≡ before
HadFault files before now (Err refusal.ReadFault) = Rose before now
HadFault files before now (Err refusal.Memory) = now ≡ before

-- why bytes are not read as a drawing
abbrev pub IsUnread : Option LevelCode → Refusal → Type 0
IsUnread fault (refusal.Level code) = (fault ≡ Some code) × (is_lost code ≡ false)
IsUnread fault refusal.Limit = ⊥
IsUnread fault refusal.ReadFault = ⊥
IsUnread fault refusal.Memory = Unit {0}

-- the answer where a drawing is refused for such a reason at a place of the list
abbrev pub answer_at : ℕ → ℕ → Refusal → Loaded
answer_at at drawing (refusal.Level code) = loaded.Level at drawing code
answer_at at drawing refusal.Limit = loaded.Limit at drawing
answer_at at drawing refusal.ReadFault = loaded.ReadFault at
answer_at at drawing refusal.Memory = loaded.Memory at
