use Rattle.std.specs.Prelude.{◌≡◌, ℕ, ◌+◌, ◌*◌, ◌/◌, ◌%◌, Bool, true, false, not, ◌&&◌, ◌||◌, ◌==◌, nat_eq, nat_lt, nat_le, List, [], ◌∷◌, ◌++◌, length, drop, slice_index, Option, Some, None}
use Rattle.std.specs.Int.{w32, cast_signed, cast_unsigned}
use Rattle.std.specs.List.{starts_with}
use Rattle.xs_rawfile.specs.declared.drawing.RawKind.{RawKind}
use Rattle.xs_rawfile.specs.declared.fault.LevelCode.{LevelCode}
use Rattle.xs_rawfile.specs.declared.fault.LevelCode.TheVariants.{Magic, Kind, KindDiffers, Size, Place, Length}
use Rattle.xs_rawfile.specs.declared.fault.LevelFault.{LevelFault}
use Rattle.xs_rawfile.specs.declared.fault.LevelFault.TheVariants.{Code, Memory}
use Rattle.xs_rawfile.specs.Raw.{Raw, raw, is_side, is_place, kind_byte}
use Rattle.xs_rawfile.specs.Pixels.{unmultiplied_fault}

-- the letters XRL1
abbrev pub magic : List ℕ
magic = 88 ∷ 82 ∷ 76 ∷ 49 ∷ []

-- the four bytes of a number, the lowest first
abbrev pub four_bytes : ℕ → List ℕ
four_bytes n = n % 256 ∷ n / 256 % 256 ∷ n / 65536 % 256 ∷ n / 16777216 % 256 ∷ []

-- the number of the four bytes from a place on
abbrev pub number_at : List ℕ → ℕ → ℕ
number_at bytes at =
    slice_index bytes at + 256 * slice_index bytes (at + 1) + 65536 * slice_index bytes (at + 2) + 16777216 * slice_index bytes (at + 3)

-- the bytes of a drawing's file
abbrev pub level_bytes : Raw → List ℕ
level_bytes d =
    magic ++ (kind_byte d.kind ∷ four_bytes (cast_unsigned w32 d.x0)) ++ four_bytes (cast_unsigned w32 d.y0) ++ four_bytes d.w ++ four_bytes d.h ++ d.bytes

-- the drawing that a file of a kind holds, if it has no fault
abbrev pub raw_of : RawKind → List ℕ → Raw
raw_of kind bytes =
    raw (cast_signed w32 (number_at bytes 5)) (cast_signed w32 (number_at bytes 9)) (number_at bytes 13) (number_at bytes 17) kind (drop 21 bytes)

-- the tests of the faults; a test of a field speaks of files that have it
unfoldable pub lacks_magic : List ℕ → Bool
lacks_magic bytes = not (starts_with nat_eq bytes magic)

unfoldable pub has_unknown_kind : List ℕ → Bool
has_unknown_kind bytes = nat_lt 4 (length bytes) && nat_lt 1 (slice_index bytes 4)

unfoldable pub has_other_kind : RawKind → List ℕ → Bool
has_other_kind kind bytes = nat_lt 4 (length bytes) && not (slice_index bytes 4 == kind_byte kind)

unfoldable pub has_wrong_side : List ℕ → Bool
has_wrong_side bytes = nat_le 21 (length bytes) && not (is_side (number_at bytes 13) && is_side (number_at bytes 17))

unfoldable pub has_wrong_place : List ℕ → Bool
has_wrong_place bytes =
    nat_le 21 (length bytes) && not (is_place (cast_signed w32 (number_at bytes 5)) && is_place (cast_signed w32 (number_at bytes 9)))

unfoldable pub has_wrong_length : List ℕ → Bool
has_wrong_length bytes = nat_lt (length bytes) 21 || not (length bytes == 21 + 4 * (number_at bytes 13 * number_at bytes 17))

-- the code of the first test that holds
abbrev pub first_of : List (Bool × LevelCode) → Option LevelCode → Option LevelCode
first_of [] last = last
first_of ((true, code) ∷ rest) last = Some code
first_of ((false, code) ∷ rest) last = first_of rest last

-- the first fault of a file of a level of this kind
unfoldable pub first_fault : RawKind → List ℕ → Option LevelCode
first_fault kind bytes =
    first_of
    ((lacks_magic bytes, Magic)
    ∷ (has_unknown_kind bytes, Kind)
    ∷ (has_other_kind kind bytes, KindDiffers)
    ∷ (has_wrong_side bytes, Size)
    ∷ (has_wrong_place bytes, Place)
    ∷ (has_wrong_length bytes, Length)
    ∷ [])
    (unmultiplied_fault kind (drop 21 bytes))

-- an answer that there is no drawing gives the first fault, and want of memory only where there is none
abbrev pub Reports : Option LevelCode → LevelFault → Type 0
Reports first (Code code) = first ≡ Some code
Reports first Memory = first ≡ None
