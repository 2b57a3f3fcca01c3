use Rattle.std.specs.Prelude.{ℕ, ◌==◌, nat_le, nat_lt, Bool, true, false, not, ◌&&◌, ◌||◌, Option, List, [], ◌∷◌, map, filter, length, slice_get, if◌then◌else◌}
use Rattle.xs_base.specs.declared.limits.TheConstants.{STYLE_NUMBERS}
use Rattle.std.specs.List.{range_with_len}
use Rattle.std.specs.Option.{option_map_or}
use Rattle.xs_pixel.specs.Channels.{Channels, clear}
use Rattle.xs_pixel.specs.Operations.{premultiplied}
use Rattle.xs_pixel.specs.declared.style.Style.{Style}
use Rattle.xs_palette.specs.Styles.{style_of, written}
use Rattle.xs_scene.specs.Records.{ColoursRecord, StyleKeyRecord}
use Rattle.xs_base.specs.Listed.{is_listed}
use Rattle.xs_meaning.specs.Keys.{latest}

-- the pixel of each style of a palette, by its number
abbrev pub Colouring : Type 0
Colouring = ℕ → Channels

-- which styles are dropped, by number: filters on the way to a drawing make these clear
abbrev pub Dropped : Type 0
Dropped = ℕ → Bool

abbrev pub none_dropped : Dropped
none_dropped style = false

-- the dropped styles, and each listed one besides
abbrev pub deleting : List ℕ → Dropped → Dropped
deleting styles f style = f style || is_listed styles style

-- the dropped styles, and besides each style number that is not listed
abbrev pub keeping : List ℕ → Dropped → Dropped
keeping styles f style = f style || (nat_lt style STYLE_NUMBERS && not (is_listed styles style))

abbrev pub pixel_of : Style → Channels
pixel_of style = premultiplied style.r style.g style.b style.a

-- the pixel of a style as the palette is written: style 0 and one that it lacks are clear
unfoldable pub as_written : ColoursRecord → Colouring
as_written c = style_of (written c.styles)

-- of some keys, the one that sets a style at a row: of those of this style at or before the row, the
-- one with the greatest row
abbrev pub key_among : List StyleKeyRecord → ℕ → ℕ → Option StyleKeyRecord
key_among keys row style = latest (λ k. k.row) (filter (λ k. k.style == style && nat_le k.row row) keys)

-- the palette key that sets a style at a row
abbrev pub key_at : ColoursRecord → ℕ → ℕ → Option StyleKeyRecord
key_at c row style = key_among c.keys row style

-- a written style, or what the key in force sets it to
abbrev pub keyed : Option StyleKeyRecord → Style → Style
keyed key style = option_map_or (λ k. k.to) key style

-- the pixel that a key gives to a written style, where the palette has it
abbrev pub keyed_pixel : Option StyleKeyRecord → Option Style → Channels
keyed_pixel key style = option_map_or (λ s. pixel_of (keyed key s)) style clear

-- the pixel of a style at a row under dropped styles: style 0, a dropped one and one that the palette
-- lacks are clear, another is what its key sets it to, or is as written
unfoldable pub style_at : ColoursRecord → ℕ → Dropped → Colouring
style_at c row f style =
    if style == 0 || f style
    then clear
    else keyed_pixel (key_at c row style) (slice_get c.styles style)

-- the pixels of the styles of a palette, from style 0 on
abbrev pub pixels_by : ColoursRecord → Colouring → List Channels
pixels_by c colouring = map colouring (range_with_len 0 (length c.styles))

abbrev pub same_pixel : Channels → Channels → Bool
same_pixel p q = (p.r == q.r && p.g == q.g) && (p.b == q.b && p.m == q.m)

abbrev pub same_pixels : List Channels → List Channels → Bool
same_pixels [] [] = true
same_pixels (p ∷ ps) (q ∷ qs) = same_pixel p q && same_pixels ps qs
same_pixels _ _ = false

abbrev pub is_clear_pixel : Channels → Bool
is_clear_pixel p = same_pixel p clear

abbrev pub before : Channels → List Channels → List Channels
before p [] = if is_clear_pixel p then [] else p ∷ []
before p (q ∷ qs) = p ∷ q ∷ qs

-- a list of pixels without the clear ones at its end
abbrev pub without_clear_end : List Channels → List Channels
without_clear_end [] = []
without_clear_end (p ∷ ps) = before p (without_clear_end ps)

-- a tint is a palette in its one canonical form: the pixels of its styles from 0 on, without the
-- clear ones at the end
abbrev pub tint_by : ColoursRecord → Colouring → List Channels
tint_by c colouring = without_clear_end (pixels_by c colouring)

abbrev pub tint_at : ColoursRecord → ℕ → Dropped → List Channels
tint_at c row f = tint_by c (style_at c row f)

-- the pixel of each style under a tint
unfoldable pub tint_style : List Channels → Colouring
tint_style tint = style_of tint

-- whether the palette gives every style its written pixel at a row under dropped styles
abbrev pub is_as_written : ColoursRecord → ℕ → Dropped → Bool
is_as_written c row f = same_pixels (tint_at c row f) (tint_by c (as_written c))
