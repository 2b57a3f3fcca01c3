use Rattle.std.specs.Prelude.{◌≡◌, ◌||◌, ◌&&◌, ◌==◌, ℕ, Bool, true, false, List, length, slice_get, Option, Some, None, nat_le, not}
use Rattle.xs_base.specs.declared.limits.TheConstants.{LONGEST_NAME}
use Rattle.std.specs.List.{list_all}
use Rattle.std.specs.Char.{is_ascii_alphanumeric}

-- an ASCII letter or digit, a space, `_`, `-` or `.`
abbrev pub is_name_byte : ℕ → Bool
is_name_byte b = is_ascii_alphanumeric b || (b == 32) || (b == 95) || (b == 45) || (b == 46)

-- the first byte, which is there and is neither `.` nor a space
abbrev pub begins_name : Option ℕ → Bool
begins_name None = false
begins_name (Some byte) = not (byte == 46) && not (byte == 32)

-- whether a text is a name: at least one such byte and at most `LONGEST_NAME`, the first neither `.` nor a space, so that no name
-- leads out of the folder or is hidden there
unfoldable pub is_name : List ℕ → Bool
is_name text = begins_name (slice_get text 0) && nat_le (length text) LONGEST_NAME && list_all is_name_byte text

abbrev pub IsName : List ℕ → Type 0
IsName text = is_name text ≡ true
