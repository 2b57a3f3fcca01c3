-- The fields of an object, each by its kind.
use Rattle.std.specs.Prelude.{ℕ, ℤ, List, Bool, true, not, ◌&&◌, int_lt, if◌then◌else◌, Option, Some, None, is_some, option_and_then, bytes_eq, find, Ok}
use Rattle.std.specs.List.{list_any}
use Rattle.serde_json.specs.Data.{Data, Items, Members, no_members, member}
use Rattle.serde_json.specs.Find.{get_member, as_object, as_array, as_str, as_bool, as_number, as_i64}
use Rattle.xs_fault.specs.declared.code.SceneCode.TheVariants as code
use Rattle.xs_fault.specs.declared.field.Field.{Field}
use Rattle.xs_fault.specs.Fields.{field_text}
use Rattle.xs_fault.specs.Paths.{path_of}
use Rattle.xs_json.specs.Parsing.{Parsed, ◌>>=◌, fault, or_fault}

-- the value of a field, if it is there
abbrev pub value_of : Field → Members → Option Data
value_of k ms = get_member (field_text k) ms

abbrev pub has : Field → Members → Bool
has k ms = is_some (value_of k ms)

-- whether one of the fields is there
abbrev pub has_any : List Field → Members → Bool
has_any keys ms = list_any (λ k. has k ms) keys

-- whether a name is the key of one of the fields
abbrev pub is_key : List Field → List ℕ → Bool
is_key keys name = list_any (λ k. bytes_eq (field_text k) name) keys

-- whether each member is one of the fields
abbrev pub has_only : List Field → Members → Bool
has_only keys no_members = true
has_only keys (member name d ms) = is_key keys name && has_only keys ms

-- the first of the fields that is not there
abbrev pub first_missing : List Field → Members → Option Field
first_missing needed ms = find (λ k. not (has k ms)) needed

-- the members, where each is one of the fields
abbrev pub known_only : List Field → List ℕ → Members → Parsed Members
known_only keys at ms = if has_only keys ms then Ok ms else fault code.UnknownKey at

abbrev pub told_missing : Option Field → List ℕ → Members → Parsed Members
told_missing None at ms = Ok ms
told_missing (Some k) at ms = fault code.MissingKey (path_of k at)

-- the members, where each of the fields is there
abbrev pub none_missing : List Field → List ℕ → Members → Parsed Members
none_missing needed at ms = told_missing (first_missing needed ms) at ms

-- an object, which has no other field than keys, and each of those needed
abbrev pub object_at : List Field → List Field → List ℕ → Data → Parsed Members
object_at keys needed at d = do
  ms ← or_fault (as_object d) code.WrongKind at
  known ← known_only keys at ms
  none_missing needed at known

-- a field that is needed
abbrev pub required_at : Field → List ℕ → Members → Parsed Data
required_at k at ms = or_fault (value_of k ms) code.MissingKey (path_of k at)

-- a whole number of 64 bits with sign, in this range
abbrev pub whole_at : ℤ → ℤ → List ℕ → Data → Parsed ℤ
whole_at least most at d = do
  z ← or_fault (option_and_then as_i64 (as_number d)) code.WrongKind at
  if int_lt z least then fault code.OutOfRange at else (if int_lt most z then fault code.OutOfRange at else Ok z)

abbrev pub text_at : List ℕ → Data → Parsed (List ℕ)
text_at at d = or_fault (as_str d) code.WrongKind at

abbrev pub list_at : List ℕ → Data → Parsed Items
list_at at d = or_fault (as_array d) code.WrongKind at

-- true or false
abbrev pub flag_at : List ℕ → Data → Parsed Bool
flag_at at d = or_fault (as_bool d) code.WrongKind at
