use Rattle.std.specs.Prelude.{◌≡◌, ℕ, List, [], map, Option, Some, None, IfSome, slice_index_or}
use Rattle.xs_cm32.specs.Word.{colour_under}
use Rattle.xs_palette.specs.Styles.{style_of, written}
use Rattle.xs_pixel.specs.Channels.{Channels}
use Rattle.xs_pixel.specs.Picture.{Content, Pictures, pixels_in, words_in}
use Rattle.xs_scene.specs.declared.level.Kind.{Kind}
use Rattle.xs_scene.specs.declared.level.Kind.TheVariants.{Colour, Cm32}
use Rattle.xs_scene.specs.Records.{SceneRecord, LevelRecord}
use Rattle.xs_meaning.specs.Drawings.{level_of, written_colouring}
use Rattle.xs_meaning.specs.Palettes.{Colouring}
use Rattle.xs_rawfile.specs.declared.drawing.RawKind.{RawKind}
use Rattle.xs_rawfile.specs.declared.drawing.RawKind.TheVariants as raw_kind
use Rattle.xs_rawfile.specs.Held.{Held, IsIn}
use Rattle.xs_rawfile.specs.Raw.{Raw}

-- palettes that give each style the same pixel as those of a scene do as they are written
abbrev pub AreAsWritten : List (List Channels) → SceneRecord → Type 0
AreAsWritten palettes s =
    (n : ℕ) → style_of (slice_index_or palettes n []) ≡ style_of (slice_index_or (map (λ c. written c.styles) s.palettes) n [])

-- a file's kind and the number of its palette are as a kind of level says
abbrev pub IsOfKind : Kind → RawKind → Option ℕ → Type 0
IsOfKind Colour kind palette = kind ≡ raw_kind.Colour
IsOfKind (Cm32 n) kind palette = (kind ≡ raw_kind.Cm32) × (palette ≡ Some n)

-- they are as the drawing's level says; without a level the file is a colour file
abbrev pub IsOfLevel : Option LevelRecord → RawKind → Option ℕ → Type 0
IsOfLevel None kind palette = IsOfKind Colour kind palette
IsOfLevel (Some level) kind palette = IsOfKind level.kind kind palette

-- the drawings that are held are of their levels, under palettes as they are written
pub record IsOfScene (s : SceneRecord) (h : Held) : Type 0 where
  pub palettes : AreAsWritten h.palettes s
  pub levels : (d : ℕ) (g : Raw) (palette : Option ℕ) → IsIn h d g palette → IsOfLevel (level_of s.levels d) g.kind palette
