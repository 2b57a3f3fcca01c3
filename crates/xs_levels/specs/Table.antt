-- A table of drawings: their files, their kinds and the palettes of the CM32 ones
use Rattle.std.specs.Prelude.{◌≡◌, ◌<◌, ◌≤◌, ℕ, List, [], All, length, map, flat_map, slice_index_or, Option, Some, None}
use Rattle.xs_base.specs.declared.limits.TheConstants.{MOST_STYLES}
use Rattle.xs_rawfile.specs.declared.drawing.RawKind.{RawKind}
use Rattle.xs_rawfile.specs.declared.drawing.RawKind.TheVariants as raw_kind
use Rattle.xs_scene.specs.declared.level.Kind.{Kind}
use Rattle.xs_scene.specs.declared.level.Kind.TheVariants.{Colour, Cm32}
use Rattle.xs_scene.specs.Records.{SceneRecord, LevelRecord, ColoursRecord}
use Rattle.xs_check.specs.Good.{files_of}

-- the names of the drawings' files and the drawings' kinds, by the drawings' numbers, and the palettes
pub record TableRecord : Type 0 where
  pub files : List (List ℕ)
  pub kinds : List Kind
  pub palettes : List ColoursRecord

-- a CM32 drawing has a palette of the table
abbrev pub HasPalette : ℕ → Kind → Type 0
HasPalette palettes Colour = Unit {0}
HasPalette palettes (Cm32 palette) = palette < palettes

-- each drawing has a kind, and each palette is there and has no more styles than one may have
pub record IsTable (t : TableRecord) : Type 0 where
  pub kinds : length t.kinds ≡ length t.files
  pub palettes : All (HasPalette (length t.palettes)) t.kinds
  pub styles : All (λ palette. length palette.styles ≤ MOST_STYLES) t.palettes

-- the name of a drawing's file
abbrev pub file_of : TableRecord → ℕ → List ℕ
file_of t d = slice_index_or t.files d []

-- the kind of a drawing
abbrev pub kind_of : TableRecord → ℕ → Kind
kind_of t d = slice_index_or t.kinds d Colour

-- the kind that the file of such a drawing has
abbrev pub raw_kind_of : Kind → RawKind
raw_kind_of Colour = raw_kind.Colour
raw_kind_of (Cm32 palette) = raw_kind.Cm32

-- the number of the palette of such a drawing
abbrev pub palette_number : Kind → Option ℕ
palette_number Colour = None
palette_number (Cm32 palette) = Some palette

-- ---- the table of a scene

-- the kind of a level, by the numbers of its drawings
abbrev pub kinds_in : LevelRecord → List Kind
kinds_in level = map (λ _. level.kind) level.drawings

-- the files and kinds of a scene's drawings, and its palettes
unfoldable pub table_of : SceneRecord → TableRecord
table_of s = record { files = files_of s.levels; kinds = flat_map kinds_in s.levels; palettes = s.palettes }

-- the kind of a level; a drawing without one counts as a colour drawing
abbrev pub kind_by : Option LevelRecord → Kind
kind_by None = Colour
kind_by (Some level) = level.kind
