use Rattle.std.specs.Prelude.{◌≡◌, Bool, true, false, Result, Ok, Err, IfErr}
use Rattle.xs_fault.specs.declared.code.SceneCode.{SceneCode}
use Rattle.xs_fault.specs.declared.code.SceneCode.TheVariants as scene
use Rattle.xs_rawfile.specs.declared.fault.LevelCode.{LevelCode}
use Rattle.xs_rawfile.specs.declared.fault.LevelCode.TheVariants as level
use Rattle.xs_top.specs.declared.status.Status.{Status}
use Rattle.xs_top.specs.declared.status.Status.TheVariants as answers

-- the answer with which a function ends a run; Ok where it came through
abbrev pub answer_of : {A : Type 0} → Result A Status → Status
answer_of (Ok value) = answers.Ok
answer_of (Err status) = status

-- whether all was done
abbrev pub is_ok : Status → Bool
is_ok answers.Ok = true
is_ok status = false

-- a part of a run that does not come through has an answer of its own
abbrev pub Fails : {A : Type 0} → Result A Status → Type 0
Fails result = IfErr result (λ status. is_ok status ≡ false)

-- the codes of a file that is not there or too long
abbrev pub is_lost_scene : SceneCode → Bool
is_lost_scene scene.NoScene = true
is_lost_scene scene.TooLong = true
is_lost_scene code = false

abbrev pub is_lost_level : LevelCode → Bool
is_lost_level level.Absent = true
is_lost_level level.TooLong = true
is_lost_level code = false

-- an answer that a file is not there or too long
abbrev pub is_lost : Status → Bool
is_lost (answers.Scene fault) = is_lost_scene fault.code
is_lost (answers.Level drawing code) = is_lost_level code
is_lost status = false

-- an answer of which a fault of the library is the cause, or may be
abbrev pub is_of_library : Status → Bool
is_of_library answers.ReadFault = true
is_of_library (answers.Scene fault) = is_lost_scene fault.code
is_of_library (answers.Level drawing code) = is_lost_level code
is_of_library status = false

-- an answer of which a fault of the shelf or of the notes is the cause
abbrev pub is_of_output : Status → Bool
is_of_output answers.WriteFault = true
is_of_output status = false

-- an answer behind which the notes may tell more
abbrev pub is_noting : Status → Bool
is_noting answers.Ok = true
is_noting answers.WriteFault = true
is_noting status = false

-- an answer that the words alone give
abbrev pub is_of_words : Status → Bool
is_of_words (answers.Usage usage) = true
is_of_words answers.NotYet = true
is_of_words status = false

-- an answer of which neither the outside nor the words are the cause
pub record IsInside (answer : Status) : Type 0 where
  pub library : is_of_library answer ≡ false
  pub output : is_of_output answer ≡ false
  pub words : is_of_words answer ≡ false
