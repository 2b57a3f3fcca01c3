-- The pictures of drawings that are held.
use Rattle.std.proofs.Common.{◌≡◌, ◌↔◌, ℕ, zero, suc, ℤ, Bool, true, false, if◌then◌else◌, List, [], ◌∷◌, Option, Some, None, IsSome, IsNone, IfSome, map, get_or, slice_get, option_map, option_and_then, refl, sym, ap, ◌∙◌}
use Rattle.std.proofs.lemmas.Bool.{false≢true}
use Rattle.std.proofs.lemmas.Option.{get_or_from_slice_get}
use Rattle.std.specs.Option.{option_map_or}
use Rattle.xs_cm32.specs.Word.{colour_under}
use Rattle.xs_palette.specs.Styles.{style_of}
use Rattle.xs_pixel.specs.Channels.{Channels, clear}
use Rattle.xs_pixel.specs.Picture.{Picture, Pictures, is_in_box, place_in_box, at_point, pixel_at, words_in}
use Rattle.xs_pixel.specs.PixelRows.{pixels}
use Rattle.xs_pixel.specs.Points.{Point}
use Rattle.xs_rawfile.specs.declared.drawing.RawKind.{RawKind}
use Rattle.xs_rawfile.specs.declared.drawing.RawKind.TheVariants.{Colour, Cm32}
use Rattle.xs_rawfile.specs.Raw.{Raw}
use Rattle.xs_rawfile.specs.Held.{Held, IsHeld, content_of, drawing_in, picture_of, plain_picture, slot_in, words_by, words_of}
use Rattle.xs_plan.specs.Values.{plain_pixel, tinted_pixel}
use Rattle.xs_bench.specs.Inputs.{held_pictures}

-- ---- a drawing as its palette is written

plain-slot :
    (palettes : List (List Channels)) (slot : Option (Raw × Option ℕ)) (q : Point) (v : Channels) → IsSome slot
    → IfSome slot (λ s. v ≡ pixel_at (picture_of palettes s.0 s.1) q.x q.y)
    → v ≡ plain_pixel (option_map (λ s. picture_of palettes s.0 s.1) slot) q
unfolding plain_pixel
plain-slot palettes None q v some is = absurd cc
plain-slot palettes (Some s) q v some is = is

pub plain-held :
    (h : Held) (d : ℕ) (q : Point) (v : Channels) → IsSome (slot_in h d)
    → IfSome (slot_in h d) (λ s. v ≡ pixel_at (picture_of h.palettes s.0 s.1) q.x q.y)
    → v ≡ plain_pixel (held_pictures h d) q
unfolding held_pictures
plain-held h d q v some is = plain-slot h.palettes (slot_in h d) q v some is

plain-not_slot :
    (palettes : List (List Channels)) (slot : Option (Raw × Option ℕ)) (q : Point) → option_map (λ s. s.0) slot ≡ None
    → plain_pixel (option_map (λ s. picture_of palettes s.0 s.1) slot) q ≡ clear
unfolding plain_pixel
plain-not_slot palettes None q is = refl
plain-not_slot palettes (Some s) q is = absurd cc

pub plain-not_held : (h : Held) (d : ℕ) (q : Point) → drawing_in h d ≡ None → plain_pixel (held_pictures h d) q ≡ clear
unfolding held_pictures
plain-not_held h d q is = plain-not_slot h.palettes (slot_in h d) q is

-- the pixels of a colour drawing, whatever its palette
colour-picture :
    (palettes : List (List Channels)) (g : Raw) (palette : Option ℕ) (q : Point) → g.kind ≡ Colour
    → pixel_at (picture_of palettes g palette) q.x q.y ≡ at_point (plain_picture g) (pixels g.bytes) clear q.x q.y
unfolding at_point
colour-picture palettes g palette q kind = rw kind refl

colour-slot :
    (palettes : List (List Channels)) (slot : Option (Raw × Option ℕ)) (g : Raw) (q : Point) → option_map (λ s. s.0) slot ≡ Some g → g.kind ≡ Colour
    → plain_pixel (option_map (λ s. picture_of palettes s.0 s.1) slot) q ≡ at_point (plain_picture g) (pixels g.bytes) clear q.x q.y
unfolding plain_pixel
colour-slot palettes None g q is kind = absurd cc
colour-slot palettes (Some s) g q is kind =
    let same : s.0 ≡ g = cc in
    ap (λ (r : Raw). pixel_at (picture_of palettes r s.1) q.x q.y) same ∙ colour-picture palettes g s.1 q kind

pub plain-colour :
    (h : Held) (d : ℕ) (g : Raw) (q : Point) → drawing_in h d ≡ Some g → g.kind ≡ Colour
    → plain_pixel (held_pictures h d) q ≡ at_point (plain_picture g) (pixels g.bytes) clear q.x q.y
unfolding held_pictures
plain-colour h d g q is kind = colour-slot h.palettes (slot_in h d) g q is kind

-- the words of a CM32 drawing under its palette
words-picture :
    (palettes : List (List Channels)) (g : Raw) (n : ℕ) (palette : List Channels) (q : Point) → g.kind ≡ Cm32
    → slice_get palettes n ≡ Some palette
    → pixel_at (picture_of palettes g (Some n)) q.x q.y
    ≡ at_point (plain_picture g) (map (colour_under (style_of palette)) (words_of g)) clear q.x q.y
unfolding at_point
words-picture palettes g n palette q kind at =
    let same = get_or_from_slice_get palettes n palette [] at in rw (kind, same) refl

words-slot :
    {X : Type 0} (palettes : List (List Channels)) (slot : Option (Raw × Option ℕ)) (g : Raw) (x : X) (palette : List Channels) (q : Point)
    → option_map (λ s. s.0) slot ≡ Some g → g.kind ≡ Cm32 → IfSome slot (λ s. IsNone (Some x) ↔ (s.1 ≡ None))
    → IfSome slot (λ s. IfSome s.1 (λ n. slice_get palettes n ≡ Some palette))
    → plain_pixel (option_map (λ s. picture_of palettes s.0 s.1) slot) q
    ≡ at_point (plain_picture g) (map (colour_under (style_of palette)) (words_of g)) clear q.x q.y
unfolding plain_pixel
words-slot palettes None g x palette q is kind some at = absurd cc
words-slot palettes (Some (r, None)) g x palette q is kind some at = absurd (false≢true (sym (some.1 refl)))
words-slot palettes (Some (r, Some n)) g x palette q is kind some at =
    let same : r ≡ g = cc in
    ap (λ (r : Raw). pixel_at (picture_of palettes r (Some n)) q.x q.y) same ∙ words-picture palettes g n palette q kind at

pub plain-words :
    {X : Type 0} (h : Held) (d : ℕ) (g : Raw) (x : X) (palette : List Channels) (q : Point)
    → drawing_in h d ≡ Some g → g.kind ≡ Cm32 → IfSome (slot_in h d) (λ s. IsNone (Some x) ↔ (s.1 ≡ None))
    → IfSome (slot_in h d) (λ s. IfSome s.1 (λ n. slice_get h.palettes n ≡ Some palette))
    → plain_pixel (held_pictures h d) q ≡ at_point (plain_picture g) (map (colour_under (style_of palette)) (words_of g)) clear q.x q.y
unfolding held_pictures
plain-words h d g x palette q is kind some at = words-slot h.palettes (slot_in h d) g x palette q is kind some at

-- without a palette it is clear
nothing-chosen : {A : Type 0} (b : Bool) (x : A) → (if b then x else x) ≡ x
nothing-chosen true x = refl
nothing-chosen false x = refl

unseen-picture :
    (palettes : List (List Channels)) (g : Raw) (q : Point) → g.kind ≡ Cm32 → pixel_at (picture_of palettes g None) q.x q.y ≡ clear
unfolding at_point
unseen-picture palettes g q kind = rw kind (nothing-chosen (is_in_box g.x0 g.y0 g.w g.h q.x q.y) clear)

unseen-slot :
    (X : Type 0) (palettes : List (List Channels)) (slot : Option (Raw × Option ℕ)) (g : Raw) (q : Point)
    → option_map (λ s. s.0) slot ≡ Some g → g.kind ≡ Cm32 → IfSome slot (λ s. IsNone {T = X} None ↔ (s.1 ≡ None))
    → plain_pixel (option_map (λ s. picture_of palettes s.0 s.1) slot) q ≡ clear
unfolding plain_pixel
unseen-slot X palettes None g q is kind none = absurd cc
unseen-slot X palettes (Some (r, Some n)) g q is kind none = let never = none.0 refl in absurd cc
unseen-slot X palettes (Some (r, None)) g q is kind none =
    let same : r ≡ g = cc in
    ap (λ (r : Raw). pixel_at (picture_of palettes r None) q.x q.y) same ∙ unseen-picture palettes g q kind

pub plain-unseen :
    (X : Type 0) (h : Held) (d : ℕ) (g : Raw) (q : Point) → drawing_in h d ≡ Some g → g.kind ≡ Cm32
    → IfSome (slot_in h d) (λ s. IsNone {T = X} None ↔ (s.1 ≡ None)) → plain_pixel (held_pictures h d) q ≡ clear
unfolding held_pictures
plain-unseen X h d g q is kind none = unseen-slot X h.palettes (slot_in h d) g q is kind none

-- ---- its words under a tint

words-same : (kind : RawKind) (bytes : List ℕ) → words_in (content_of kind bytes) ≡ words_by kind bytes
words-same Colour bytes = refl
words-same Cm32 bytes = refl

abbrev tinted_word : List Channels → ℕ → Channels
tinted_word tint = colour_under (style_of tint)

tinted-drawing :
    (palettes : List (List Channels)) (g : Raw) (palette : Option ℕ) (tint : List Channels) (q : Point)
    → tinted_pixel (Some (picture_of palettes g palette)) tint q
    ≡ at_point (plain_picture g) (map (tinted_word tint) (words_of g)) clear q.x q.y
unfolding tinted_pixel at_point
tinted-drawing palettes g palette tint q = rw (words-same g.kind g.bytes) refl

tinted-slot :
    (palettes : List (List Channels)) (slot : Option (Raw × Option ℕ)) (g : Raw) (tint : List Channels) (q : Point)
    → option_map (λ s. s.0) slot ≡ Some g
    → tinted_pixel (option_map (λ s. picture_of palettes s.0 s.1) slot) tint q
    ≡ at_point (plain_picture g) (map (tinted_word tint) (words_of g)) clear q.x q.y
tinted-slot palettes None g tint q is = absurd cc
tinted-slot palettes (Some s) g tint q is =
    let same : s.0 ≡ g = cc in
    tinted-drawing palettes s.0 s.1 tint q
    ∙ ap (λ (r : Raw). at_point (plain_picture r) (map (tinted_word tint) (words_of r)) clear q.x q.y) same

-- the pixel of a drawing that is held under a tint
pub tinted-held :
    (h : Held) (d : ℕ) (g : Raw) (tint : List Channels) (q : Point) → drawing_in h d ≡ Some g
    → tinted_pixel (held_pictures h d) tint q
    ≡ at_point (plain_picture g) (map (tinted_word tint) (words_of g)) clear q.x q.y
unfolding held_pictures
tinted-held h d g tint q is = tinted-slot h.palettes (slot_in h d) g tint q is

-- a colour drawing has no words
pub tinted-colour :
    (g : Raw) (tint : List Channels) (q : Point) → g.kind ≡ Colour
    → at_point (plain_picture g) (map (tinted_word tint) (words_of g)) clear q.x q.y ≡ clear
unfolding at_point
tinted-colour g tint q kind = rw kind (nothing-chosen (is_in_box g.x0 g.y0 g.w g.h q.x q.y) clear)

tinted-no_slot :
    (palettes : List (List Channels)) (slot : Option (Raw × Option ℕ)) (tint : List Channels) (q : Point)
    → option_map (λ s. s.0) slot ≡ None → clear ≡ tinted_pixel (option_map (λ s. picture_of palettes s.0 s.1) slot) tint q
unfolding tinted_pixel
tinted-no_slot palettes None tint q is = refl
tinted-no_slot palettes (Some s) tint q is = absurd cc

-- and of one that is not held
pub tinted-not_held :
    (h : Held) (d : ℕ) (tint : List Channels) (q : Point) → drawing_in h d ≡ None
    → clear ≡ tinted_pixel (held_pictures h d) tint q
unfolding held_pictures
tinted-not_held h d tint q is = tinted-no_slot h.palettes (slot_in h d) tint q is

word-listed :
    (tint : List Channels) (words : List ℕ) (k : ℕ)
    → option_map_or (tinted_word tint) (get_or (map (λ w. Some w) words) k None) clear ≡ get_or (map (tinted_word tint) words) k clear
word-listed tint [] k = refl
word-listed tint (w ∷ words) zero = refl
word-listed tint (w ∷ words) (suc k) = word-listed tint words k

word-chosen :
    (inside : Bool) (tint : List Channels) (words : List ℕ) (k : ℕ)
    → option_map_or (tinted_word tint) (if inside then get_or (map (λ w. Some w) words) k None else None) clear
    ≡ (if inside then get_or (map (tinted_word tint) words) k clear else clear)
word-chosen true tint words k = word-listed tint words k
word-chosen false tint words k = refl

-- the pixel of the word at a point
pub word-pixel :
    (p : Picture) (tint : List Channels) (words : List ℕ) (x y : ℤ)
    → option_map_or (tinted_word tint) (at_point p (map (λ w. Some w) words) None x y) clear
    ≡ at_point p (map (tinted_word tint) words) clear x y
unfolding at_point
word-pixel p tint words x y =
    word-chosen (is_in_box p.x0 p.y0 p.w p.h x y) tint words (place_in_box p.x0 p.y0 p.w x y)

-- ---- the pictures of a film

abbrev unwrapped : Option (Option (Raw × Option ℕ)) → Option (Raw × Option ℕ)
unwrapped found = option_and_then (λ slot. slot) found

held-told_slot :
    (slots : List (Option (Raw × Option ℕ))) (palettes : List (List Channels)) (d : ℕ) (told : Option Picture)
    (found : Option (Option (Raw × Option ℕ)))
    → slice_get slots d ≡ found
    → ((g : Raw) (palette : Option ℕ) → slice_get slots d ≡ Some (Some (g, palette)) → told ≡ Some (picture_of palettes g palette))
    → IsSome (unwrapped found) → option_map (λ s. picture_of palettes s.0 s.1) (unwrapped found) ≡ told
held-told_slot slots palettes d told None is films some = absurd cc
held-told_slot slots palettes d told (Some None) is films some = absurd cc
held-told_slot slots palettes d told (Some (Some s)) is films some = sym (films s.0 s.1 is)

-- a drawing that is held is its picture in the film
pub held-told :
    (told : Option Pictures) (h : Held) (pictures : Pictures) (d : ℕ) → IsHeld told h → told ≡ Some pictures → IsSome (slot_in h d)
    → held_pictures h d ≡ pictures d
unfolding held_pictures
held-told told h pictures d holds tells some =
    held-told_slot h.slots h.palettes d (pictures d) (slice_get h.slots d) refl
    (λ g palette is. holds.filmed pictures tells d g palette is) some
