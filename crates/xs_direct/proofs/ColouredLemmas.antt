-- The pixels of pictures are their words under the palettes as they are written
use Rattle.std.proofs.Common.{ℕ, zero, suc, ◌≡◌, Option, Some, None, IfSome, List, [], ◌∷◌, map, get_or, slice_get, option_map, option_and_then, refl, sym, ap, ◌∙◌}
use Rattle.xs_cm32.specs.Word.{colour_under}
use Rattle.xs_cm32.specs.WordRows.{words}
use Rattle.xs_palette.specs.Styles.{style_of, written}
use Rattle.xs_pixel.specs.Channels.{Channels, clear}
use Rattle.xs_pixel.specs.Picture.{Picture, Pictures, at_point, pixel_at}
use Rattle.xs_pixel.specs.Points.{Point}
use Rattle.xs_scene.specs.declared.level.Kind.{Kind}
use Rattle.xs_scene.specs.declared.level.Kind.TheVariants.{Colour, Cm32}
use Rattle.xs_scene.specs.Records.{SceneRecord, LevelRecord, ColoursRecord}
use Rattle.xs_meaning.specs.Drawings.{drawing_pixel, seen_under, AreColouredAsWritten, written_colouring, colours_of, palette_of, level_of, no_colours}
use Rattle.xs_meaning.specs.Palettes.{Colouring, as_written}
use Rattle.xs_rawfile.specs.declared.drawing.RawKind.{RawKind}
use Rattle.xs_rawfile.specs.declared.drawing.RawKind.TheVariants as raw_kind
use Rattle.xs_rawfile.specs.Held.{Held, IsIn, slot_in, picture_of, content_of, coloured_of}
use Rattle.xs_rawfile.specs.Raw.{Raw}
use Rattle.xs_direct.specs.Coloured.{AreAsWritten, IsOfKind, IsOfLevel, IsOfScene}
use Rattle.xs_direct.specs.Pictures.{pictures_in}
use Rattle.xs_direct.proofs.HeldLemmas.{mapped, each_slot}

-- the pixel of a picture by its file, and that of its pixels as they are seen
seen-pixel : (q : Picture) (colouring : Option Colouring) (p : Point)
    → at_point q (seen_under colouring q.content) clear p.x p.y ≡ drawing_pixel (Some q) colouring p
unfolding drawing_pixel
seen-pixel q None p = refl
seen-pixel q (Some colouring) p = refl

pub coloured-pixel : (q : Picture) (colouring : Option Colouring) (p : Point) → q.coloured ≡ seen_under colouring q.content
    → drawing_pixel (Some q) colouring p ≡ pixel_at q p.x p.y
coloured-pixel q colouring p is = sym (ap (λ items. at_point q items clear p.x p.y) is ∙ seen-pixel q colouring p)

-- a palette of a scene, as it is written
written-at : (palettes : List ColoursRecord) (n : ℕ)
    → get_or (map (λ (c : ColoursRecord). written c.styles) palettes) n [] ≡ written (get_or palettes n no_colours).styles
written-at [] n = refl
written-at (c ∷ cs) zero = refl
written-at (c ∷ cs) (suc n) = written-at cs n

pub style_of-written : (s : SceneRecord) (palettes : List (List Channels)) (n : ℕ) → AreAsWritten palettes s
    → style_of (get_or palettes n []) ≡ as_written (get_or s.palettes n no_colours)
unfolding as_written
style_of-written s palettes n are = are n ∙ ap style_of (written-at s.palettes n)

by_kind :
    (s : SceneRecord) (palettes : List (List Channels)) (level : Kind) (kind : RawKind) (bytes : List ℕ) (palette : Option ℕ)
    → AreAsWritten palettes s → IsOfKind level kind palette
    → coloured_of palettes kind bytes palette ≡ seen_under (option_map as_written (palette_of s.palettes level)) (content_of kind bytes)
by_kind s palettes Colour kind bytes palette are is =
    rw is refl
by_kind s palettes (Cm32 n) kind bytes palette are is =
    rw (is.0, is.1) (ap (λ colouring. map (colour_under colouring) (words bytes)) (style_of-written s palettes n are))

by_level :
    (s : SceneRecord) (palettes : List (List Channels)) (level : Option LevelRecord) (kind : RawKind) (bytes : List ℕ) (palette : Option ℕ)
    → AreAsWritten palettes s → IsOfLevel level kind palette
    → coloured_of palettes kind bytes palette
    ≡ seen_under (option_map as_written (option_and_then (λ (l : LevelRecord). palette_of s.palettes l.kind) level)) (content_of kind bytes)
by_level s palettes None kind bytes palette are is = by_kind s palettes Colour kind bytes palette are is
by_level s palettes (Some level) kind bytes palette are is = by_kind s palettes level.kind kind bytes palette are is

-- a drawing of its level is coloured as its palette is written
pub coloured-as_written :
    (s : SceneRecord) (palettes : List (List Channels)) (d : ℕ) (g : Raw) (palette : Option ℕ)
    → AreAsWritten palettes s → IsOfLevel (level_of s.levels d) g.kind palette
    → (picture_of palettes g palette).coloured ≡ seen_under (written_colouring s d) (picture_of palettes g palette).content
unfolding colours_of
coloured-as_written s palettes d g palette are is = by_level s palettes (level_of s.levels d) g.kind g.bytes palette are is

pub drawing-as_written :
    (s : SceneRecord) (palettes : List (List Channels)) (d : ℕ) (g : Raw) (palette : Option ℕ)
    → AreAsWritten palettes s → IsOfLevel (level_of s.levels d) g.kind palette → (p : Point)
    → drawing_pixel (Some (picture_of palettes g palette)) (written_colouring s d) p ≡ pixel_at (picture_of palettes g palette) p.x p.y
drawing-as_written s palettes d g palette are is p =
    coloured-pixel (picture_of palettes g palette) (written_colouring s d) p (coloured-as_written s palettes d g palette are is)

pub held-as_written : (s : SceneRecord) (h : Held) → IsOfScene s h → AreColouredAsWritten s (pictures_in h)
unfolding pictures_in
held-as_written s h of_scene d =
    mapped (λ (slot : Raw × Option ℕ). picture_of h.palettes slot.0 slot.1) (slot_in h d)
    (λ (q : Picture). q.coloured ≡ seen_under (written_colouring s d) q.content)
    (each_slot h d (λ g palette. coloured_of h.palettes g.kind g.bytes palette ≡ seen_under (written_colouring s d) (content_of g.kind g.bytes))
    (λ g palette is. coloured-as_written s h.palettes d g palette of_scene.palettes (of_scene.levels d g palette is)))

shown-as_written :
    (picture : Option Picture) (colouring : Option Colouring) (p : Point)
    → IfSome picture (λ q. q.coloured ≡ seen_under colouring q.content)
    → IfSome picture (λ q. drawing_pixel picture colouring p ≡ pixel_at q p.x p.y)
shown-as_written None colouring p is = tt
shown-as_written (Some q) colouring p is = coloured-pixel q colouring p is

pub pictures-as_written :
    (s : SceneRecord) (pictures : Pictures) → AreColouredAsWritten s pictures → (d : ℕ) (p : Point)
    → IfSome (pictures d) (λ q. drawing_pixel (pictures d) (written_colouring s d) p ≡ pixel_at q p.x p.y)
pictures-as_written s pictures are d p = shown-as_written (pictures d) (written_colouring s d) p (are d)
