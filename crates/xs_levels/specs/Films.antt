-- The pictures of a table's drawings in the files of a library
use Rattle.std.specs.Prelude.{◌≡◌, ℕ, ◌&&◌, nat_lt, Bool, true, List, [], map, slice_index_or, length, Option, None, Some, is_none, option_and_then, option_map, if◌then◌else◌}
use Rattle.std.specs.List.{list_all}
use Rattle.xs_base.specs.declared.limits.TheConstants.{DRAWING_LIMIT}
use Rattle.xs_pixel.specs.Channels.{Channels}
use Rattle.xs_pixel.specs.Picture.{Picture, Pictures}
use Rattle.xs_palette.specs.Styles.{written, style_of}
use Rattle.xs_rawfile.specs.Held.{picture_of}
use Rattle.xs_rawfile.specs.Level.{first_fault, raw_of}
use Rattle.xs_rawfile.specs.Raw.{Raw}
use Rattle.xs_rawfile.specs.declared.fault.LevelCode.{LevelCode}
use Rattle.xs_rawfile.specs.declared.fault.LevelCode.TheVariants.{Absent, TooLong}
use Rattle.xs_scene.specs.declared.level.Kind.{Kind}
use Rattle.xs_levels.specs.Table.{TableRecord, file_of, kind_of, raw_kind_of, palette_number}

-- the files of a library by name
abbrev pub Files : Type 0
Files = List ℕ → Option (List ℕ)

-- the pixels of the palettes of a table as they are written
abbrev pub palettes_of : TableRecord → List (List Channels)
palettes_of t = map (λ palette. written palette.styles) t.palettes

-- palettes that give each style the same pixel as those of a table do as they are written
abbrev pub AreAsWritten : List (List Channels) → TableRecord → Type 0
AreAsWritten palettes t =
    (n : ℕ) → style_of (slice_index_or palettes n []) ≡ style_of (slice_index_or (palettes_of t) n [])

-- whether numbers are bytes
abbrev pub are_bytes : List ℕ → Bool
are_bytes numbers = list_all (λ number. nat_lt number 256) numbers

-- the picture that the bytes of a file show, if the file has no fault
abbrev pub picture_in : List (List Channels) → Kind → List ℕ → Option Picture
picture_in palettes kind bytes =
    if are_bytes bytes && is_none (first_fault (raw_kind_of kind) bytes)
    then Some (picture_of palettes (raw_of (raw_kind_of kind) bytes) (palette_number kind))
    else None

-- the pictures of a table's drawings: those whose files are there and have no fault
unfoldable pub pictures_of : Files → TableRecord → Pictures
pictures_of files t d = option_and_then (picture_in (palettes_of t) (kind_of t d)) (files (file_of t d))

-- the file of a drawing is there, has no fault and holds this drawing
pub record IsFileOf (files : Files) (t : TableRecord) (d : ℕ) (g : Raw) : Type 0 where
  pub bytes : List ℕ
  pub there : files (file_of t d) ≡ Some bytes
  pub numbers : are_bytes bytes ≡ true
  pub accepted : first_fault (raw_kind_of (kind_of t d)) bytes ≡ None
  pub drawing : g ≡ raw_of (raw_kind_of (kind_of t d)) bytes

-- the pictures of a film of this table, where the library tells its files
abbrev pub film_of : Option Files → TableRecord → Option Pictures
film_of files t = option_map (λ told. pictures_of told t) files

-- the fault of the file of a drawing of this kind: it is absent, too long, or its bytes have one
abbrev pub file_fault : Kind → Option (List ℕ) → Option LevelCode
file_fault kind None = Some Absent
file_fault kind (Some bytes) =
    if nat_lt DRAWING_LIMIT (length bytes) then Some TooLong else first_fault (raw_kind_of kind) bytes

unfoldable pub fault_of : Files → TableRecord → ℕ → Option LevelCode
fault_of files t d = file_fault (kind_of t d) (files (file_of t d))
