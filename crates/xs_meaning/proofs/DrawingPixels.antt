-- The pixels of a scene in range, under pictures of pixels, are pixels
use Rattle.std.proofs.Common.{ℕ, ◌==◌, ◌||◌, nat_le, ◌&&◌, Option, Some, None, List, map, filter, slice_get, All, IfSome, option_map, option_and_then, arith}
use Rattle.std.proofs.lemmas.Bool.{cond_both}
use Rattle.std.specs.Option.{option_map_or}
use Rattle.std.proofs.lemmas.List.Elements.{All-filter, All-map}
use Rattle.xs_pixel.specs.Channels.{Channels, clear, IsPixel}
use Rattle.xs_pixel.specs.Picture.{Picture, Content, Pixels, Words, at_point, place_in_box, is_in_box}
use Rattle.xs_pixel.specs.declared.style.Style.{Style}
use Rattle.xs_pixel.proofs.StaysPixel.{IsPixel-premultiplied}
use Rattle.xs_cm32.specs.Word.{ink_of, paint_of, colour_under}
use Rattle.xs_cm32.proofs.Mixes.{IsPixel-colour_of}
use Rattle.xs_scene.specs.declared.level.Kind.{Kind}
use Rattle.xs_scene.specs.declared.level.Kind.TheVariants.{Colour, Cm32}
use Rattle.xs_scene.specs.Records.{SceneRecord, LevelRecord, ColoursRecord, StyleKeyRecord}
use Rattle.xs_pixel.specs.Points.{Point}
use Rattle.xs_meaning.specs.Palettes.{Colouring, Dropped, pixel_of, style_at, key_at, keyed, keyed_pixel}
use Rattle.xs_pixel.specs.Picture.{Pictures, pixels_in, words_in}
use Rattle.xs_meaning.specs.Drawings.{level_of, palette_of, colours_of, no_colours, drawing_pixel, colouring_at}
use Rattle.xs_scene.specs.InRange.{IsStyle, ColoursInRange, IsInRange}
use Rattle.xs_pixel.specs.Picture.{HoldsPixels, ArePixels}
use Rattle.xs_meaning.proofs.KeyLemmas.{latest-has}
use Rattle.xs_meaning.proofs.Lists.{All-slice_get, All-slice_index_or}

pub IsPixel-clear : IsPixel clear
IsPixel-clear = record { red = omega arith; green = omega arith; blue = omega arith; top = omega arith }

pub IsPixel-pixel_of : (style : Style) → IsStyle style → IsPixel (pixel_of style)
IsPixel-pixel_of style bytes = IsPixel-premultiplied style.r style.g style.b style.a bytes.r bytes.g bytes.b bytes.a

IsStyle-keyed : (key : Option StyleKeyRecord) (style : Style) → IfSome key (λ k. IsStyle k.to) → IsStyle style → IsStyle (keyed key style)
IsStyle-keyed None style keys bytes = bytes
IsStyle-keyed (Some key) style keys bytes = keys

IsPixel-option :
    (g : Style → Channels) (style : Option Style) → ((s : Style) → IsStyle s → IsPixel (g s))
    → IfSome style IsStyle → IsPixel (option_map_or g style clear)
IsPixel-option g None pixel bytes = IsPixel-clear
IsPixel-option g (Some style) pixel bytes = pixel style bytes

IsPixel-style_at : (c : ColoursRecord) → ColoursInRange c → (row : ℕ) (f : Dropped) (style : ℕ) → IsPixel (style_at c row f style)
unfolding style_at
IsPixel-style_at c bytes row f style =
    cond_both (style == 0 || f style) clear (keyed_pixel (key_at c row style) (slice_get c.styles style))
    IsPixel
    (λ passes. IsPixel-clear)
    (λ fails.
    IsPixel-option (λ s. pixel_of (keyed (key_at c row style) s)) (slice_get c.styles style)
    (λ s is_style. IsPixel-pixel_of (keyed (key_at c row style) s) (IsStyle-keyed (key_at c row style) s key is_style))
    (All-slice_get IsStyle c.styles style bytes.styles))
  where
    key : IfSome (key_at c row style) (λ k. IsStyle k.to)
    key =
        latest-has (λ k. IsStyle k.to) (λ k. k.row) (filter (λ k. k.style == style && nat_le k.row row) c.keys)
        (All-filter (λ k. k.style == style && nat_le k.row row) (λ k. IsStyle k.to) c.keys
        (λ i d lt. (bytes.keys i d lt).to))

-- at a point of a picture stands one of its items, or what is outside
at_point-has :
    {X : Type 0} (P : X → Type 0) (q : Picture) (items : List X) (outside : X) (p : Point) → P outside
    → All P items → P (at_point q items outside p.x p.y)
unfolding at_point
at_point-has P q items outside p beyond all =
    cond_both (is_in_box q.x0 q.y0 q.w q.h p.x p.y) _ outside P
    (λ passes. All-slice_index_or P items (place_in_box q.x0 q.y0 q.w p.x p.y) outside beyond all)
    (λ fails. beyond)

abbrev ColoursPixels : Option Colouring → Type 0
ColoursPixels colouring = IfSome colouring (λ g. (style : ℕ) → IsPixel (g style))

IsPixel-drawing_pixel :
    (picture : Option Picture) (colouring : Option Colouring) (p : Point)
    → IfSome picture (λ q. HoldsPixels q.content) → ColoursPixels colouring → IsPixel (drawing_pixel picture colouring p)
unfolding drawing_pixel
IsPixel-drawing_pixel None colouring p pixels coloured = IsPixel-clear
IsPixel-drawing_pixel (Some q) None p pixels coloured =
    at_point-has IsPixel q (pixels_in q.content) clear p IsPixel-clear (held q.content pixels)
  where
    held : (content : Content) → HoldsPixels content → All IsPixel (pixels_in content)
    held (Pixels ps) all = all
    held (Words ws) all = λ k d lt. absurd (omega arith)
IsPixel-drawing_pixel (Some q) (Some g) p pixels coloured =
    at_point-has IsPixel q (map (colour_under g) (words_in q.content)) clear p IsPixel-clear
    (All-map IsPixel (colour_under g) (words_in q.content)
    (λ k d lt. IsPixel-colour_of _ (g (ink_of _)) (g (paint_of _)) (coloured _) (coloured _)))

ColoursInRange-palette_of : (palettes : List ColoursRecord) → All ColoursInRange palettes → (kind : Kind) → IfSome (palette_of palettes kind) ColoursInRange
ColoursInRange-palette_of palettes all Colour = tt
ColoursInRange-palette_of palettes all (Cm32 palette) =
    All-slice_index_or ColoursInRange palettes palette no_colours
    (record { styles = λ k d lt. absurd (omega arith); keys = λ k d lt. absurd (omega arith) }) all

ColoursInRange-colours_of : (s : SceneRecord) → IsInRange s → (d : ℕ) → IfSome (colours_of s d) ColoursInRange
unfolding colours_of
ColoursInRange-colours_of s range d = of_level (level_of s.levels d)
  where
    of_level : (level : Option LevelRecord) → IfSome (option_and_then (λ l. palette_of s.palettes l.kind) level) ColoursInRange
    of_level None = tt
    of_level (Some l) = ColoursInRange-palette_of s.palettes range.palettes l.kind

pub IsPixel-drawing_at :
    (s : SceneRecord) (pictures : Pictures) → IsInRange s → ArePixels pictures
    → (d row : ℕ) (f : Dropped) (p : Point) → IsPixel (drawing_pixel (pictures d) (colouring_at s d row f) p)
IsPixel-drawing_at s pictures range pixels d row f p =
    IsPixel-drawing_pixel (pictures d) (colouring_at s d row f) p (pixels d)
    (of_colours (colours_of s d) (ColoursInRange-colours_of s range d))
  where
    of_colours : (c : Option ColoursRecord) → IfSome c ColoursInRange → ColoursPixels (option_map (λ c. style_at c row f) c)
    of_colours None bytes = tt
    of_colours (Some c) bytes = IsPixel-style_at c bytes row f
