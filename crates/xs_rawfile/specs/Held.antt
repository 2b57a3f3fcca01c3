use Rattle.std.specs.Prelude.{◌≡◌, ℕ, ◌<◌, List, length, map, Option, Some, None, slice_get, slice_index_or, option_and_then, option_map, []}
use Rattle.xs_cm32.specs.WordRows.{words}
use Rattle.xs_cm32.specs.Word.{colour_under}
use Rattle.xs_palette.specs.Styles.{style_of}
use Rattle.xs_pixel.specs.Channels.{Channels}
use Rattle.xs_pixel.specs.Picture.{Picture, Content, Pixels, Words}
use Rattle.xs_pixel.specs.PixelRows.{pixels}
use Rattle.xs_rawfile.specs.declared.drawing.RawKind.{RawKind}
use Rattle.xs_rawfile.specs.declared.drawing.RawKind.TheVariants.{Colour, Cm32}
use Rattle.xs_rawfile.specs.Raw.{Raw, IsRaw}

-- the drawings by number, each with the number of its palette, if it has one, and the palettes
pub record Held : Type 0 where
  pub slots : List (Option (Raw × Option ℕ))
  pub palettes : List (List Channels)

abbrev pub held : List (Option (Raw × Option ℕ)) → List (List Channels) → Held
held slots palettes = record { slots = slots; palettes = palettes }

-- the drawing of this number is held, with this palette
abbrev pub IsIn : Held → ℕ → Raw → Option ℕ → Type 0
IsIn h d g palette = slice_get h.slots d ≡ Some (Some (g, palette))

-- a drawing may be held with this palette: a CM32 drawing has one, and it exists
abbrev pub HasItsPalette : List (List Channels) → RawKind → Option ℕ → Type 0
HasItsPalette palettes kind (Some p) = p < length palettes
HasItsPalette palettes Colour None = Unit {0}
HasItsPalette palettes Cm32 None = ⊥

-- what the file of a drawing holds
abbrev pub content_of : RawKind → List ℕ → Content
content_of Colour bytes = Pixels (pixels bytes)
content_of Cm32 bytes = Words (words bytes)

-- the pixels that are seen of it under the palette with this number
abbrev pub coloured_of : List (List Channels) → RawKind → List ℕ → Option ℕ → List Channels
coloured_of palettes Colour bytes palette = pixels bytes
coloured_of palettes Cm32 bytes (Some p) = map (colour_under (style_of (slice_index_or palettes p []))) (words bytes)
coloured_of palettes Cm32 bytes None = []

-- the picture that a drawing is
abbrev pub picture_of : List (List Channels) → Raw → Option ℕ → Picture
picture_of palettes g palette =
    record
    { x0 = g.x0; y0 = g.y0; w = g.w; h = g.h; content = content_of g.kind g.bytes; coloured = coloured_of palettes g.kind g.bytes palette }

-- the picture that a drawing is without a palette: a CM32 drawing is clear
abbrev pub plain_picture : Raw → Picture
plain_picture g = picture_of [] g None

-- the words of a CM32 drawing; a colour drawing has none
abbrev pub words_by : RawKind → List ℕ → List ℕ
words_by Colour bytes = []
words_by Cm32 bytes = words bytes

abbrev pub words_of : Raw → List ℕ
words_of g = words_by g.kind g.bytes

-- each drawing is one that a file may hold, has a palette where it needs one, and is its picture where
-- pictures are told
pub record IsHeld (pictures : Option (ℕ → Option Picture)) (h : Held) : Type 0 where
  pub raw : (d : ℕ) (g : Raw) (palette : Option ℕ) → IsIn h d g palette → IsRaw g
  pub named : (d : ℕ) (g : Raw) (palette : Option ℕ) → IsIn h d g palette → HasItsPalette h.palettes g.kind palette
  pub filmed :
      (told : ℕ → Option Picture) → pictures ≡ Some told → (d : ℕ) (g : Raw) (palette : Option ℕ)
      → IsIn h d g palette → told d ≡ Some (picture_of h.palettes g palette)

-- the drawing with this number and its palette, if it is held
abbrev pub slot_in : Held → ℕ → Option (Raw × Option ℕ)
slot_in h d = option_and_then (λ slot. slot) (slice_get h.slots d)

-- that drawing alone
abbrev pub drawing_in : Held → ℕ → Option Raw
drawing_in h d = option_map (λ slot. slot.0) (slot_in h d)
