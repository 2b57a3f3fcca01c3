-- How the fields of a scene text are read, for every object alike.
use Rattle.std.specs.Prelude.{ℕ, ◌+◌, ℤ, pos, neg_ℤ, List, [], ◌∷◌, Bool, ◌&&◌, if◌then◌else◌, Option, Some, None, is_some, is_none, option_and_then, unsigned_abs, Ok}
use Rattle.xs_base.specs.declared.limits.TheConstants.{LAST_ROW, GREATEST_REFERENCE, FARTHEST_OFFSET}
use Rattle.serde_json.specs.Data.{Data, Items, no_items, item, Members}
use Rattle.serde_json.specs.Find.{as_number, as_i64}
use Rattle.xs_fault.specs.declared.code.SceneCode.{SceneCode}
use Rattle.xs_fault.specs.declared.code.SceneCode.TheVariants as code
use Rattle.xs_fault.specs.declared.field.Field.{Field}
use Rattle.xs_fault.specs.Paths.{index_at, path_of}
use Rattle.xs_json.specs.Parsing.{Parsed, ◌>>=◌, fault}
use Rattle.xs_json.specs.Objects.{value_of, has_any, none_missing, required_at, whole_at, list_at}

-- ---- a field

-- a field that is needed
abbrev pub field : {A : Type 0} → Field → (List ℕ → Data → Parsed A) → List ℕ → Members → Parsed A
field k reading at ms = do
  d ← required_at k at ms
  reading (path_of k at) d

abbrev pub if_there : {A : Type 0} → (Data → Parsed A) → Option Data → Parsed (Option A)
if_there reading None = Ok None
if_there reading (Some d) = do
  x ← reading d
  Ok (Some x)

-- a field that may be absent
abbrev pub optional_field : {A : Type 0} → Field → (List ℕ → Data → Parsed A) → List ℕ → Members → Parsed (Option A)
optional_field k reading at ms = if_there (reading (path_of k at)) (value_of k ms)

abbrev pub or_given : {A : Type 0} → A → (Data → Parsed A) → Option Data → Parsed A
or_given given reading None = Ok given
or_given given reading (Some d) = reading d

-- a field in whose absence a value is given
abbrev pub field_or : {A : Type 0} → A → Field → (List ℕ → Data → Parsed A) → List ℕ → Members → Parsed A
field_or given k reading at ms = or_given given (reading (path_of k at)) (value_of k ms)

-- the members, where none of the fields is there
abbrev pub none_of : SceneCode → List Field → List ℕ → Members → Parsed Members
none_of code barred at ms = if has_any barred ms then fault code at else Ok ms

-- the form of an object that has two: first what must not be there, then what must
abbrev pub form_at : List Field → List Field → List ℕ → Members → Parsed Members
form_at barred needed at ms = do
  allowed ← none_of code.UnknownKey barred at ms
  none_missing needed at allowed

-- ---- a list

-- the elements from number i on
abbrev pub each_at : {A : Type 0} → (List ℕ → Data → Parsed A) → List ℕ → ℕ → Items → Parsed (List A)
each_at reading at i no_items = Ok []
each_at reading at i (item d ds) = do
  x ← reading (index_at at i) d
  xs ← each_at reading at (i + 1) ds
  Ok (x ∷ xs)

-- a list, element by element
abbrev pub list_of : {A : Type 0} → (List ℕ → Data → Parsed A) → List ℕ → Data → Parsed (List A)
list_of reading at d = do
  ds ← list_at at d
  each_at reading at 0 ds

-- ---- a number

abbrev pub number_at : ℕ → ℕ → List ℕ → Data → Parsed ℕ
number_at least most at d = do
  z ← whole_at (pos least) (pos most) at d
  Ok (unsigned_abs z)

-- a row of an exposure sheet
abbrev pub row_at : List ℕ → Data → Parsed ℕ
row_at = number_at 1 LAST_ROW

-- the number of a peg, a palette, a level, a drawing, a sheet, a column or a node
abbrev pub reference_at : List ℕ → Data → Parsed ℕ
reference_at = number_at 0 GREATEST_REFERENCE

-- a number that is no whole number of 64 bits with sign
abbrev pub is_other_number : Data → Bool
is_other_number d = is_some (as_number d) && is_none (option_and_then as_i64 (as_number d))

abbrev pub no_other_number : List ℕ → Data → Parsed Data
no_other_number at d = if is_other_number d then fault code.Placement at else Ok d

-- an offset in whole pixels; any other number is a placement that isn't rendered
unfoldable pub offset_at : List ℕ → Data → Parsed ℤ
offset_at at d = do
  whole ← no_other_number at d
  whole_at (neg_ℤ (pos FARTHEST_OFFSET)) (pos FARTHEST_OFFSET) at whole
