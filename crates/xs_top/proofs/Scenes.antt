-- What reading and checking a scene leaves to do.
use Rattle.std.proofs.Common.{◌≡◌, List, ℕ, Bool, true, false, Option, Some, None, Ok, Err, refl, ap}
use Rattle.xs_fault.specs.declared.fault.SceneFault.{SceneFault}
use Rattle.xs_fault.specs.declared.fault.FieldFault.{FieldFault}
use Rattle.xs_fault.specs.declared.fault.FieldFault.TheVariants as field
use Rattle.xs_json.specs.Parsing.{Parsed, Fails}
use Rattle.xs_scene.specs.Records.{SceneRecord}
use Rattle.xs_scene_json.specs.Faults.{is_text_code}
use Rattle.xs_scene_json.specs.SceneText.{scene_of}
use Rattle.xs_check.specs.Passes.{first_fault}
use Rattle.xs_check.specs.Finding.{Finds}
use Rattle.xs_fault.specs.declared.code.SceneCode.{SceneCode}
use Rattle.xs_fault.specs.declared.code.SceneCode.TheVariants as scene_code
use Rattle.xs_base.specs.declared.limits.TheConstants.{SCENE_LIMIT}
use Rattle.xs_top.specs.Trace.{Outcome}
use Rattle.xs_top.specs.Seen.{Seen}
use Rattle.xs_top.specs.Runs.{Stopped}
use Rattle.xs_top.specs.declared.status.Status.TheVariants as answers
use Rattle.xs_top.specs.Causes.{is_lost_scene, IsInside}
use Rattle.xs_top.specs.Texts.{scene_status}
use Rattle.xs_levels.specs.Films.{Files}
use Rattle.xs_top.specs.Outcome.{no_scene, asking, if_faultless, decoded, loading_scene}
use Rattle.xs_check.specs.Codes.{is_of_checking}
use Rattle.xs_top.proofs.Parts.{did_nothing, stopped_whole, stopped_here}

module _ (reading : Parsed SceneRecord) (next : SceneRecord → Outcome) where
  -- the scene that a text says, and what checking finds in it
  decoded_as : (s : SceneRecord) (found : Option SceneFault) → reading ≡ Ok s → first_fault s ≡ found → decoded reading next ≡ if_faultless found (next s)
  decoded_as s found e finds = rw e (ap (λ f. if_faultless f (next s)) finds)

  pub scene_read : (s : SceneRecord) → reading ≡ Ok s → first_fault s ≡ None → decoded reading next ≡ next s
  scene_read s e finds = decoded_as s None e finds

  pub scene_refused : (seen : Seen) (s : SceneRecord) (fault : FieldFault) → reading ≡ Ok s → Finds {X = SceneRecord} (Err fault) (first_fault s)
      → Stopped (decoded reading next) seen seen (scene_status fault)
  scene_refused seen s (field.Fault fault) e finds = stopped_whole _ seen seen _ refl (rw (decoded_as s (Some fault) e finds) (did_nothing _ _))
  scene_refused seen s field.Memory e finds = stopped_here _ seen

-- a text with a fault
pub text_refused : (reading : Parsed SceneRecord) (next : SceneRecord → Outcome) (seen : Seen) (fault : FieldFault) → Fails fault reading
    → Stopped (decoded reading next) seen seen (scene_status fault)
text_refused reading next seen (field.Fault fault) e = stopped_whole _ seen seen _ refl (rw e (did_nothing _ _))
text_refused reading next seen field.Memory e = stopped_here _ seen

pub scene_asked : (files : Files) (name : List ℕ) (next : SceneRecord → Outcome)
    → loading_scene files name next ≡ asking files name SCENE_LIMIT (no_scene scene_code.NoScene) (no_scene scene_code.TooLong)
    (λ bytes. decoded (scene_of bytes) next)
unfolding loading_scene
scene_asked files name next = refl

-- a fault that checking finds has one of its codes
abbrev pub CheckingCodes : Type 0
CheckingCodes = (s : SceneRecord) (fault : SceneFault) → first_fault s ≡ Some fault → is_of_checking fault.code ≡ true

-- the fault of a text has one of the codes of texts
abbrev pub TextCodes : Type 0
TextCodes = (bytes : List ℕ) (fault : SceneFault) → scene_of bytes ≡ Err fault → is_text_code fault.code ≡ true

-- a code of some that are not those of a file that is not there or too long is none of the two
pub not_lost : (among : SceneCode → Bool) → among scene_code.NoScene ≡ false → among scene_code.TooLong ≡ false → (code : SceneCode)
    → among code ≡ true → is_lost_scene code ≡ false
not_lost among absent long scene_code.NotJson is = refl
not_lost among absent long scene_code.UnknownKey is = refl
not_lost among absent long scene_code.MissingKey is = refl
not_lost among absent long scene_code.WrongKind is = refl
not_lost among absent long scene_code.OutOfRange is = refl
not_lost among absent long scene_code.NoSuchReference is = refl
not_lost among absent long scene_code.Overlap is = refl
not_lost among absent long scene_code.PegCycle is = refl
not_lost among absent long scene_code.NodeCycle is = refl
not_lost among absent long scene_code.SheetCycle is = refl
not_lost among absent long scene_code.Placement is = refl
not_lost among absent long scene_code.TooMany is = refl
not_lost among absent long scene_code.NoScene is = absurd (cc)
not_lost among absent long scene_code.TooLong is = absurd (cc)
not_lost among absent long scene_code.CamerasDiffer is = refl

-- a fault of reading or checking is never that there is no file, or one too long
kept_inside : (fault : SceneFault) → is_lost_scene fault.code ≡ false → IsInside (answers.Scene fault)
kept_inside fault kept = record { library = kept; output = refl; words = refl }

memory_inside : IsInside answers.Memory
memory_inside = record { library = refl; output = refl; words = refl }

pub text_inside : TextCodes → (bytes : List ℕ) (fault : FieldFault) → Fails fault (scene_of bytes) → IsInside (scene_status fault)
text_inside texts bytes (field.Fault fault) e = kept_inside fault (not_lost is_text_code refl refl fault.code (texts bytes fault e))
text_inside texts bytes field.Memory e = memory_inside

pub scene_inside : CheckingCodes → (s : SceneRecord) (fault : FieldFault) → Finds {X = SceneRecord} (Err fault) (first_fault s)
    → IsInside (scene_status fault)
scene_inside checking s (field.Fault fault) finds = kept_inside fault (not_lost is_of_checking refl refl fault.code (checking s fault finds))
scene_inside checking s field.Memory finds = memory_inside
