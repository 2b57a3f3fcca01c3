use Rattle.std.specs.Prelude.{◌≡◌, ℕ, ◌+◌, ◌-◌, nat_lt, Option, Some, None, IfSome, List, [], ◌∷◌, map, take, length, sum_by, slice_index_or, option_map, option_and_then, if◌then◌else◌}
use Rattle.xs_pixel.specs.Channels.{Channels, clear}
use Rattle.xs_pixel.specs.Picture.{Content, Picture, Pictures, pixels_in, words_in, at_point}
use Rattle.xs_scene.specs.declared.level.Kind.{Kind}
use Rattle.xs_scene.specs.declared.level.Kind.TheVariants.{Colour, Cm32}
use Rattle.xs_scene.specs.Records.{SceneRecord, LevelRecord, ColoursRecord}
use Rattle.xs_cm32.specs.Word.{colour_under}
use Rattle.xs_pixel.specs.Points.{Point}
use Rattle.xs_meaning.specs.Palettes.{Colouring, Dropped, style_at, as_written}

-- the number of a drawing: levels in order, then their drawings in order
abbrev pub number_of : List LevelRecord → ℕ → ℕ → ℕ
number_of levels level index = sum_by (λ l. length l.drawings) (take level levels) + index

-- the level of the drawing with a number
abbrev pub level_of : List LevelRecord → ℕ → Option LevelRecord
level_of [] d = None
level_of (l ∷ ls) d = if nat_lt d (length l.drawings) then Some l else level_of ls (d - length l.drawings)

abbrev pub no_colours : ColoursRecord
no_colours = record { styles = []; keys = [] }

-- the palette of a kind of level: a colour level has none
abbrev pub palette_of : List ColoursRecord → Kind → Option ColoursRecord
palette_of palettes Colour = None
palette_of palettes (Cm32 palette) = Some (slice_index_or palettes palette no_colours)

-- the palette of a drawing, and none where it is a colour drawing
unfoldable pub colours_of : SceneRecord → ℕ → Option ColoursRecord
colours_of s d = option_and_then (λ l. palette_of s.palettes l.kind) (level_of s.levels d)

-- the pixel of a drawing at a point: a colour drawing has the pixels of its file, another one its
-- words under a colouring. It is clear outside its box, without a picture, and where its file is of
-- the other kind
unfoldable pub drawing_pixel : Option Picture → Option Colouring → Point → Channels
drawing_pixel None colouring p = clear
drawing_pixel (Some picture) None p = at_point picture (pixels_in picture.content) clear p.x p.y
drawing_pixel (Some picture) (Some colouring) p =
    at_point picture (map (colour_under colouring) (words_in picture.content)) clear p.x p.y

-- the colouring of a drawing as its palette is written, and at a row under dropped styles
abbrev pub written_colouring : SceneRecord → ℕ → Option Colouring
written_colouring s d = option_map as_written (colours_of s d)

abbrev pub colouring_at : SceneRecord → ℕ → ℕ → Dropped → Option Colouring
colouring_at s d row f = option_map (λ c. style_at c row f) (colours_of s d)

-- the pixels of a content: those of a colour file, or its words under a colouring
abbrev pub seen_under : Option Colouring → Content → List Channels
seen_under None content = pixels_in content
seen_under (Some colouring) content = map (colour_under colouring) (words_in content)

-- each picture's coloured pixels are those of its file, or its words under its palette as it is written
abbrev pub AreColouredAsWritten : SceneRecord → Pictures → Type 0
AreColouredAsWritten s pictures =
    (d : ℕ) → IfSome (pictures d) (λ q. q.coloured ≡ seen_under (written_colouring s d) q.content)
