use Rattle.std.specs.Prelude.{◌≡◌, ℕ, List, Contains}
use Rattle.xs_outside.specs.declared.library.Fetched.{Fetched}
use Rattle.xs_outside.specs.declared.library.Fetched.TheVariants as fetched
use Rattle.xs_outside.specs.declared.shelf.Put.{Put}
use Rattle.xs_outside.specs.declared.shelf.Put.TheVariants as put
use Rattle.xs_outside.specs.declared.notes.Noted.{Noted}
use Rattle.xs_outside.specs.declared.notes.Noted.TheVariants as noted
use Rattle.xs_outside.specs.Counts.{counted}

-- the numbers of the calls that fail, how many calls were made, and how many faults there were
pub record CallsRecord : Type 0 where
  pub fails : List ℕ
  pub made : ℕ
  pub faults : ℕ

-- the next call is one of those that fail
abbrev pub IsFailing : CallsRecord → Type 0
IsFailing calls = Contains calls.fails (counted calls.made)

-- after a call without a fault
abbrev pub passed : CallsRecord → CallsRecord
passed calls = record calls { made = counted calls.made }

-- after a call with a fault
abbrev pub failed : CallsRecord → CallsRecord
failed calls = record calls { made = counted calls.made; faults = counted calls.faults }

-- a call has a fault just where it is one of those that fail; it may find no memory instead
abbrev pub IsPlannedFetch : CallsRecord → CallsRecord → Fetched → Type 0
IsPlannedFetch before now (fetched.Bytes bytes) = (¬ IsFailing before) × (now ≡ passed before)
IsPlannedFetch before now fetched.Absent = (¬ IsFailing before) × (now ≡ passed before)
IsPlannedFetch before now fetched.TooLong = (¬ IsFailing before) × (now ≡ passed before)
IsPlannedFetch before now fetched.Failed = IsFailing before × (now ≡ failed before)
IsPlannedFetch before now fetched.Memory = now ≡ passed before

abbrev pub IsPlannedPut : CallsRecord → CallsRecord → Put → Type 0
IsPlannedPut before now put.Done = (¬ IsFailing before) × (now ≡ passed before)
IsPlannedPut before now put.Failed = IsFailing before × (now ≡ failed before)
IsPlannedPut before now put.Memory = now ≡ passed before

abbrev pub IsPlannedLine : CallsRecord → CallsRecord → Noted → Type 0
IsPlannedLine before now noted.Done = (¬ IsFailing before) × (now ≡ passed before)
IsPlannedLine before now noted.Failed = IsFailing before × (now ≡ failed before)
IsPlannedLine before now noted.Memory = now ≡ passed before
