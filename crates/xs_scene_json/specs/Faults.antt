-- The faults that a scene text can have.
use Rattle.std.specs.Prelude.{Bool, true, false}
use Rattle.xs_fault.specs.declared.code.SceneCode.{SceneCode}
use Rattle.xs_fault.specs.declared.code.SceneCode.TheVariants as code

-- a code of the fault of a text; the others tell of a scene that was read, or of a file
abbrev pub is_text_code : SceneCode → Bool
is_text_code code.NotJson = true
is_text_code code.UnknownKey = true
is_text_code code.MissingKey = true
is_text_code code.WrongKind = true
is_text_code code.OutOfRange = true
is_text_code code.Placement = true
is_text_code other = false
