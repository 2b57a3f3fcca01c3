-- The pixel of a drawing that is held
use Rattle.std.proofs.Common.{ℕ, zero, suc, ◌≡◌, Bool, true, false, cond, ℤ, Option, Some, None, List, [], ◌∷◌, map, get_or, option_map, option_and_then, refl, sym, ap, ◌∙◌}
use Rattle.std.specs.Option.{option_map_or}
use Rattle.xs_pixel.specs.Channels.{Channels, clear}
use Rattle.xs_pixel.specs.Picture.{Picture, at_point, is_in_box, place_in_box}
use Rattle.xs_cm32.specs.Word.{colour_under}
use Rattle.xs_scene.specs.declared.level.Kind.{Kind}
use Rattle.xs_scene.specs.declared.level.Kind.TheVariants as kind
use Rattle.xs_scene.specs.Records.{SceneRecord, LevelRecord, ColoursRecord}
use Rattle.xs_meaning.specs.Drawings.{drawing_pixel, colouring_at, colours_of, palette_of, level_of, no_colours}
use Rattle.xs_pixel.specs.Picture.{pixels_in, words_in}
use Rattle.xs_meaning.specs.Palettes.{Colouring, Dropped, style_at}
use Rattle.xs_pixel.specs.Points.{Point}
use Rattle.xs_rawfile.specs.declared.drawing.RawKind.{RawKind}
use Rattle.xs_rawfile.specs.declared.drawing.RawKind.TheVariants.{Colour, Cm32}
use Rattle.xs_rawfile.specs.Raw.{Raw}
use Rattle.xs_rawfile.specs.Held.{Held, slot_in, drawing_in, picture_of, content_of, coloured_of, words_by}
use Rattle.xs_direct.specs.Pictures.{pictures_in, shown_pixel}

-- ---- by the drawing's own kind

own_pixels : (kind : RawKind) (bytes : List ℕ) → pixels_in (content_of kind bytes) ≡ coloured_of [] kind bytes None
own_pixels Colour bytes = refl
own_pixels Cm32 bytes = refl

own_words : (kind : RawKind) (bytes : List ℕ) → words_in (content_of kind bytes) ≡ words_by kind bytes
own_words Colour bytes = refl
own_words Cm32 bytes = refl

shown_of :
    (palettes : List (List Channels)) (g : Raw) (palette : Option ℕ) (colouring : Option Colouring) (p : Point)
    → drawing_pixel (Some (picture_of palettes g palette)) colouring p ≡ shown_pixel colouring g p
unfolding drawing_pixel at_point
shown_of palettes g palette None p =
    ap
    (λ (items : List Channels).
    cond (is_in_box g.x0 g.y0 g.w g.h p.x p.y) (get_or items (place_in_box g.x0 g.y0 g.w p.x p.y) clear) clear)
    (own_pixels g.kind g.bytes)
shown_of palettes g palette (Some colouring) p =
    ap
    (λ (words : List ℕ).
    cond (is_in_box g.x0 g.y0 g.w g.h p.x p.y)
    (get_or (map (colour_under colouring) words) (place_in_box g.x0 g.y0 g.w p.x p.y) clear) clear)
    (own_words g.kind g.bytes)

slot-shown :
    (palettes : List (List Channels)) (slot : Option (Raw × Option ℕ)) (g : Raw) (colouring : Option Colouring) (p : Point)
    → option_map (λ (slot : Raw × Option ℕ). slot.0) slot ≡ Some g
    → shown_pixel colouring g p
    ≡ drawing_pixel (option_map (λ (slot : Raw × Option ℕ). picture_of palettes slot.0 slot.1) slot) colouring p
slot-shown palettes None g colouring p is = absurd (let e : None ≡ Some g = is in cc)
slot-shown palettes (Some (held, palette)) g colouring p is =
    ap (λ g. shown_pixel colouring g p) (let same : g ≡ held = cc in same) ∙ sym (shown_of palettes held palette colouring p)

slot-clear :
    (palettes : List (List Channels)) (slot : Option (Raw × Option ℕ)) (colouring : Option Colouring) (p : Point)
    → option_map (λ (slot : Raw × Option ℕ). slot.0) slot ≡ None
    → clear ≡ drawing_pixel (option_map (λ (slot : Raw × Option ℕ). picture_of palettes slot.0 slot.1) slot) colouring p
unfolding drawing_pixel
slot-clear palettes None colouring p is = refl
slot-clear palettes (Some held) colouring p is = absurd (let e : Some held.0 ≡ None = is in cc)

pub held-shown :
    (h : Held) (d : ℕ) (g : Raw) (colouring : Option Colouring) (p : Point) → drawing_in h d ≡ Some g
    → shown_pixel colouring g p ≡ drawing_pixel (pictures_in h d) colouring p
unfolding pictures_in
held-shown h d g colouring p is = slot-shown h.palettes (slot_in h d) g colouring p is

pub lacking-clear :
    (h : Held) (d : ℕ) (colouring : Option Colouring) (p : Point) → drawing_in h d ≡ None
    → clear ≡ drawing_pixel (pictures_in h d) colouring p
unfolding pictures_in
lacking-clear h d colouring p is = slot-clear h.palettes (slot_in h d) colouring p is

-- ---- by the kind of its level

palette_by :
    (palettes : List ColoursRecord) (level : Option LevelRecord) (k : Kind) → option_map (λ (l : LevelRecord). l.kind) level ≡ Some k
    → option_and_then (λ (l : LevelRecord). palette_of palettes l.kind) level ≡ palette_of palettes k
palette_by palettes None k is = absurd (let e : None ≡ Some k = is in cc)
palette_by palettes (Some l) k is = ap (palette_of palettes) (let same : l.kind ≡ k = cc in same)

colouring_by :
    (s : SceneRecord) (d row : ℕ) (f : Dropped) (k : Kind) → option_map (λ (l : LevelRecord). l.kind) (level_of s.levels d) ≡ Some k
    → colouring_at s d row f ≡ option_map (λ c. style_at c row f) (palette_of s.palettes k)
unfolding colours_of
colouring_by s d row f k is = ap (option_map (λ c. style_at c row f)) (palette_by s.palettes (level_of s.levels d) k is)

pub shown-colour :
    (s : SceneRecord) (d row : ℕ) (f : Dropped) (g : Raw) (p : Point)
    → option_map (λ (l : LevelRecord). l.kind) (level_of s.levels d) ≡ Some kind.Colour
    → shown_pixel None g p ≡ shown_pixel (colouring_at s d row f) g p
shown-colour s d row f g p is = ap (λ colouring. shown_pixel colouring g p) (sym (colouring_by s d row f kind.Colour is))

pub shown-words :
    (s : SceneRecord) (d row palette : ℕ) (f : Dropped) (g : Raw) (p : Point)
    → option_map (λ (l : LevelRecord). l.kind) (level_of s.levels d) ≡ Some (kind.Cm32 palette)
    → shown_pixel (Some (style_at (get_or s.palettes palette no_colours) row f)) g p ≡ shown_pixel (colouring_at s d row f) g p
shown-words s d row palette f g p is =
    ap (λ colouring. shown_pixel colouring g p) (sym (colouring_by s d row f (kind.Cm32 palette) is))

-- ---- a word at a point

made_of : {B : Type 0} (f : ℕ → B) (d : B) (words : List ℕ) (i : ℕ) → option_map_or f (get_or (map (λ w. Some w) words) i None) d ≡ get_or (map f words) i d
made_of f d [] i = refl
made_of f d (w ∷ ws) zero = refl
made_of f d (w ∷ ws) (suc i) = made_of f d ws i

made_in :
    {B : Type 0} (b : Bool) (f : ℕ → B) (d : B) (words : List ℕ) (i : ℕ)
    → option_map_or f (cond b (get_or (map (λ w. Some w) words) i None) None) d ≡ cond b (get_or (map f words) i d) d
made_in true f d words i = made_of f d words i
made_in false f d words i = refl

pub word-made :
    {B : Type 0} (q : Picture) (f : ℕ → B) (d : B) (words : List ℕ) (x y : ℤ) (word : Option ℕ)
    → word ≡ at_point q (map (λ w. Some w) words) None x y → option_map_or f word d ≡ at_point q (map f words) d x y
unfolding at_point
word-made q f d words x y word is =
    ap (λ w. option_map_or f w d) is
    ∙ made_in (is_in_box q.x0 q.y0 q.w q.h x y) f d words (place_in_box q.x0 q.y0 q.w x y)
