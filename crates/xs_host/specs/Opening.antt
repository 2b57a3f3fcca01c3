use Rattle.std.specs.Prelude.{◌≡◌, ◌≤◌, ℕ, length, Result, Ok, Err}
use Rattle.std.specs.declared.io.ErrorKind.{ErrorKind}
use Rattle.std.specs.declared.io.ErrorKind.TheVariants.{NotFound, OutOfMemory, Interrupted}
use Rattle.std.specs.declared.io.Error.{Error}
use Rattle.std.specs.IoError.{error_kind}
use Rattle.xs_outside.specs.Counts.{counted}
use Rattle.xs_outside.specs.declared.library.Fetched.{Fetched}
use Rattle.xs_outside.specs.declared.library.Fetched.TheVariants as fetched

-- the answer to a fault of this kind in reading a file that is open
abbrev pub reading_answer : ErrorKind → Fetched
reading_answer OutOfMemory = fetched.Memory
reading_answer _ = fetched.Failed

-- the answer to a fault of this kind in opening a file
abbrev pub opening_answer : ErrorKind → Fetched
opening_answer NotFound = fetched.Absent
opening_answer OutOfMemory = fetched.Memory
opening_answer _ = fetched.Failed

-- the faults of a reader after a read that failed for this reason
abbrev pub faults_after : ErrorKind → ℕ → ℕ
faults_after Interrupted before = before
faults_after _ before = counted before

-- a reader counts each read that failed and was not interrupted
abbrev pub CountsRead : ℕ → ℕ → Result ℕ Error → Type 0
CountsRead before now (Ok count) = now ≡ before
CountsRead before now (Err error) = now ≡ faults_after (error_kind error) before

-- when the reading of a file that is open may answer so: the file is there, its bytes are within the
-- limit, and it fails only with a fault
abbrev pub IsReading : ℕ → Type 0 → Fetched → Type 0
IsReading limit rose (fetched.Bytes bytes) = length bytes.items ≤ limit
IsReading limit rose fetched.Absent = ⊥
IsReading limit rose fetched.TooLong = Unit {0}
IsReading limit rose fetched.Failed = rose
IsReading limit rose fetched.Memory = Unit {0}
