use Rattle.std.specs.Prelude.{◌≡◌, ℕ, ◌+◌, ◌-◌, ◌^◌, min}
use Rattle.xs_outside.specs.declared.library.Fetched.{Fetched}
use Rattle.xs_outside.specs.declared.library.Fetched.TheVariants as fetched
use Rattle.xs_outside.specs.declared.shelf.Put.{Put}
use Rattle.xs_outside.specs.declared.shelf.Put.TheVariants as put
use Rattle.xs_outside.specs.declared.notes.Noted.{Noted}
use Rattle.xs_outside.specs.declared.notes.Noted.TheVariants as noted

-- one more, but a count stands still at its last value
abbrev pub counted : ℕ → ℕ
counted count = min (count + 1) (2 ^ 64 - 1)

-- the faults of a library that tells nothing: all but bytes and want of memory is one
abbrev pub CountsFetch : ℕ → ℕ → Fetched → Type 0
CountsFetch before now (fetched.Bytes bytes) = now ≡ before
CountsFetch before now fetched.Absent = now ≡ counted before
CountsFetch before now fetched.TooLong = now ≡ counted before
CountsFetch before now fetched.Failed = now ≡ counted before
CountsFetch before now fetched.Memory = now ≡ before

-- the faults of a shelf
abbrev pub CountsPut : ℕ → ℕ → Put → Type 0
CountsPut before now put.Done = now ≡ before
CountsPut before now put.Failed = now ≡ counted before
CountsPut before now put.Memory = now ≡ before

-- the faults of notes
abbrev pub CountsLine : ℕ → ℕ → Noted → Type 0
CountsLine before now noted.Done = now ≡ before
CountsLine before now noted.Failed = now ≡ counted before
CountsLine before now noted.Memory = now ≡ before
