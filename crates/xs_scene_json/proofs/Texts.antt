-- The value of a text, by whether its bytes are UTF-8, and its faults.
use Rattle.std.proofs.Common.{◌≡◌, ℕ, List, [], Bool, true, false, cond, Some, None, Ok, Err, refl, sym, ap}
use Rattle.std.specs.Str.{is_utf8, IsUtf8}
use Rattle.std.proofs.lemmas.Str.{IsUtf8-from_is_utf8, is_utf8-from_IsUtf8}
use Rattle.serde_json.specs.Data.{Data}
use Rattle.serde_json.specs.Read.{read}
use Rattle.xs_fault.specs.declared.code.SceneCode.{SceneCode}
use Rattle.xs_fault.specs.declared.fault.FieldFault.{FieldFault}
use Rattle.xs_fault.specs.declared.fault.FieldFault.TheVariants as errors
use Rattle.xs_fault.specs.Faults.{IsFaultAt}
use Rattle.xs_json.specs.Parsing.{Fails, fault}
use Rattle.xs_scene.specs.Records.{SceneRecord}
use Rattle.xs_scene_text.specs.SceneText.{json_of, scene_at, scene_of}

pub json_of-some : (bytes : List ℕ) (d : Data) → IsUtf8 bytes → read bytes ≡ Some d → json_of bytes ≡ Some d
json_of-some bytes d utf8 e = rw (is_utf8-from_IsUtf8 bytes utf8) e

none_when : (b : Bool) (bytes : List ℕ) → is_utf8 bytes ≡ b → (IsUtf8 bytes → read bytes ≡ None) → cond b (read bytes) None ≡ None
none_when true bytes e none = none (IsUtf8-from_is_utf8 bytes e)
none_when false bytes e none = refl

pub json_of-none : (bytes : List ℕ) → (IsUtf8 bytes → read bytes ≡ None) → json_of bytes ≡ None
json_of-none bytes none = none_when (is_utf8 bytes) bytes refl none

-- a fault that is told is the reading's
pub fails_as_told : (Y : Type 0) (code : SceneCode) (at : List ℕ) (e : FieldFault) → IsFaultAt code at e → Fails {Y = Y} e (fault code at)
fails_as_told Y code at errors.Memory told = tt
fails_as_told Y code at (errors.Fault f) told = ap Err (sym told)

-- a text that is read as a scene's value is read as the scene
pub scene_of-some : (bytes : List ℕ) (d : Data) (s : SceneRecord) → IsUtf8 bytes → read bytes ≡ Some d → scene_at [] d ≡ Ok s → scene_of bytes ≡ Ok s
unfolding scene_of
scene_of-some bytes d s utf8 reads scene = rw (json_of-some bytes d utf8 reads) scene
