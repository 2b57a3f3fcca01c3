use Rattle.std.specs.Prelude.{ℕ, List, Option, find}
use Rattle.std.specs.Option.{option_map}
use Rattle.std.specs.Str.{bytes_eq}
use Rattle.xs_outside.specs.declared.object.Object.{Object}
use Rattle.xs_outside.specs.Calls.{CallsRecord}

-- the bytes of the first of these files that has this name
abbrev pub file_in : List Object → List ℕ → Option (List ℕ)
file_in files name = option_map (λ file. file.bytes) (find (λ file. bytes_eq file.name name) files)

-- a library in memory: its files, the names asked for, and its calls
pub record MemLibraryRecord : Type 0 where
  pub files : List Object
  pub asked : List (List ℕ)
  pub calls : CallsRecord

-- a shelf in memory: its finished files and its calls
pub record MemShelfRecord : Type 0 where
  pub objects : List Object
  pub calls : CallsRecord

-- notes in memory: the bytes written and the calls
pub record MemNotesRecord : Type 0 where
  pub bytes : List ℕ
  pub calls : CallsRecord
