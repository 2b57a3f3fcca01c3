use Rattle.std.specs.Prelude.{ℕ}
use Rattle.xs_outside.specs.declared.quiet_library.QuietLibrary.{QuietLibrary}

-- the library inside a quiet one
abbrev pub inner_of : {L : Type 0} → QuietLibrary L → L
inner_of quiet = quiet.inner

-- how many faults a quiet library had
abbrev pub faults_of : {L : Type 0} → QuietLibrary L → ℕ
faults_of quiet = quiet.faults
