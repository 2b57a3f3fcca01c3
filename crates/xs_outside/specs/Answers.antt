use Rattle.std.specs.Prelude.{◌≡◌, ℕ, ◌<◌, ◌≤◌, ◌⊎◌, List, [], ◌∷◌, ◌++◌, length, take, Option, Some, None, IfSome, MatchOption}
use Rattle.xs_outside.specs.Told.{more}
use Rattle.xs_outside.specs.declared.object.Object.{Object}
use Rattle.xs_outside.specs.declared.library.Fetched.{Fetched}
use Rattle.xs_outside.specs.declared.library.Fetched.TheVariants as fetched
use Rattle.xs_outside.specs.declared.shelf.Put.{Put}
use Rattle.xs_outside.specs.declared.shelf.Put.TheVariants as put
use Rattle.xs_outside.specs.declared.notes.Noted.{Noted}
use Rattle.xs_outside.specs.declared.notes.Noted.TheVariants as noted

-- when a library with these files may answer so to this name and limit: where the files are told,
-- exactly by them; where they are not, an absent or too long file comes only with a fault
abbrev pub IsFetched : Option (List ℕ → Option (List ℕ)) → List ℕ → ℕ → Type 0 → Fetched → Type 0
IsFetched files name limit rose (fetched.Bytes bytes) =
    (length bytes.items ≤ limit) × IfSome files (λ file. file name ≡ Some bytes.items)
IsFetched files name limit rose fetched.Absent = MatchOption files rose (λ file. file name ≡ None)
IsFetched files name limit rose fetched.TooLong =
    MatchOption files rose (λ file. (bytes : List ℕ) × (file name ≡ Some bytes) × (limit < length bytes))
IsFetched files name limit rose fetched.Failed = rose
IsFetched files name limit rose fetched.Memory = Unit {0}

-- each call asks for its name; one that finds no memory asks or leaves the names as they were
abbrev pub IsAsked : Option (List (List ℕ)) → Option (List (List ℕ)) → List ℕ → Fetched → Type 0
IsAsked before now name (fetched.Bytes bytes) = now ≡ more before (name ∷ [])
IsAsked before now name fetched.Absent = now ≡ more before (name ∷ [])
IsAsked before now name fetched.TooLong = now ≡ more before (name ∷ [])
IsAsked before now name fetched.Failed = now ≡ more before (name ∷ [])
IsAsked before now name fetched.Memory = (now ≡ before) ⊎ (now ≡ more before (name ∷ []))

-- what a shelf holds after its answer: the file comes last, or nothing changes
abbrev pub IsPut : Option (List Object) → Option (List Object) → Object → Type 0 → Put → Type 0
IsPut before now object rose put.Done = now ≡ more before (object ∷ [])
IsPut before now object rose put.Failed = rose × (now ≡ before)
IsPut before now object rose put.Memory = now ≡ before

-- what notes hold after their answer: the line and its end come last, or a part of them, or nothing
abbrev pub IsNoted : Option (List ℕ) → Option (List ℕ) → List ℕ → Type 0 → Noted → Type 0
IsNoted before now line rose noted.Done = now ≡ more before (line ++ 10 ∷ [])
IsNoted before now line rose noted.Failed =
    rose × ((written : ℕ) × (now ≡ more before (take written (line ++ 10 ∷ []))))
IsNoted before now line rose noted.Memory = now ≡ before

-- bytes and want of memory leave the count of faults
abbrev pub KeepsFetch : ℕ → ℕ → Fetched → Type 0
KeepsFetch before now (fetched.Bytes bytes) = now ≡ before
KeepsFetch before now fetched.Absent = Unit {0}
KeepsFetch before now fetched.TooLong = Unit {0}
KeepsFetch before now fetched.Failed = Unit {0}
KeepsFetch before now fetched.Memory = now ≡ before

-- so do a file that was put on the shelf and want of memory
abbrev pub KeepsPut : ℕ → ℕ → Put → Type 0
KeepsPut before now put.Done = now ≡ before
KeepsPut before now put.Failed = Unit {0}
KeepsPut before now put.Memory = now ≡ before

-- so do a line that was written and want of memory
abbrev pub KeepsLine : ℕ → ℕ → Noted → Type 0
KeepsLine before now noted.Done = now ≡ before
KeepsLine before now noted.Failed = Unit {0}
KeepsLine before now noted.Memory = now ≡ before
