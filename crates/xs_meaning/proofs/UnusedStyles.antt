-- Filters that name no style that is used change no value
use Rattle.std.proofs.Common.{ℕ, ◌≡◌, ◌==◌, ◌||◌, ◌&&◌, not, nat_lt, refl, sym, ap, ap₂, ◌∙◌, Bool, true, false, cond, Option, Some, None, List, [], ◌∷◌, map, slice_get, All, IfSome, option_map}
use Rattle.std.proofs.lemmas.List.Elements.{All-head, All-tail}
use mathlib.Core.Path.{fun_ext}
use Rattle.xs_pixel.specs.Channels.{clear}
use Rattle.xs_pixel.specs.Operations.{apply_of}
use Rattle.xs_pixel.specs.Picture.{Picture, at_point}
use Rattle.xs_cm32.specs.Word.{ink_of, paint_of, colour_of, colour_under}
use Rattle.xs_scene.specs.declared.node.Ref.{Ref}
use Rattle.xs_scene.specs.Records.{SceneRecord, ColoursRecord}
use Rattle.xs_meaning.specs.Agreement.{EachStyleUsed, AgreeOnWords, UsesNoneOf, UsesOnly}
use Rattle.xs_pixel.specs.Picture.{Pictures, words_in}
use Rattle.xs_meaning.specs.Drawings.{colours_of, number_of, drawing_pixel, colouring_at}
use Rattle.xs_meaning.specs.Palettes.{Colouring, Dropped, deleting, keeping, style_at, keyed_pixel, key_at}
use Rattle.xs_base.specs.Listed.{is_listed}
use Rattle.xs_pixel.specs.Points.{minus, Point}
use Rattle.xs_meaning.specs.RowValues.{by_points, row_under, value_under}
use Rattle.xs_pixel.specs.Images.{blurred}
use Rattle.xs_meaning.specs.Walk.{sheet_at}
use Rattle.xs_meaning.proofs.Agree.{Agrees, whole_row-agrees, whole_input-agrees, meets-any}
use Rattle.std.proofs.Math.Bool.{or-false, and-false}

-- two colourings that agree on each style that the words use give a drawing the same pixels

map-agree : {X Y : Type 0} (h h' : X → Y) (xs : List X) → All (λ x. h x ≡ h' x) xs → map h xs ≡ map h' xs
map-agree h h' [] all = refl
map-agree h h' (x ∷ xs) all =
    ap₂ (λ y ys. y ∷ ys) (All-head (λ x. h x ≡ h' x) x xs all) (map-agree h h' xs (All-tail (λ x. h x ≡ h' x) x xs all))

drawing_pixel-agree :
    (picture : Option Picture) (g h : Colouring) (p : Point)
    → IfSome picture (λ q. All (λ w. (g (ink_of w) ≡ h (ink_of w)) × (g (paint_of w) ≡ h (paint_of w))) (words_in q.content))
    → drawing_pixel picture (Some g) p ≡ drawing_pixel picture (Some h) p
unfolding drawing_pixel
drawing_pixel-agree None g h p agree = refl
drawing_pixel-agree (Some q) g h p agree =
    ap (λ items. at_point q items clear p.x p.y)
    (map-agree (colour_under g) (colour_under h) (words_in q.content)
    (λ k w lt. ap₂ (colour_of _) (agree k w lt).0 (agree k w lt).1))

pub style_at-dropped : (c : ColoursRecord) (row : ℕ) (f g : Dropped) (style : ℕ) → f style ≡ g style → style_at c row f style ≡ style_at c row g style
unfolding style_at
style_at-dropped c row f g style same =
    ap (λ b. cond (style == 0 || b) clear (keyed_pixel (key_at c row style) (slice_get c.styles style))) same

-- filters that agree on the styles of a drawing's words give it the same pixels
drawing_pixel-filters :
    (s : SceneRecord) (pictures : Pictures) (f g : Dropped) → AgreeOnWords pictures f g
    → (d row : ℕ) (p : Point)
    → drawing_pixel (pictures d) (colouring_at s d row f) p ≡ drawing_pixel (pictures d) (colouring_at s d row g) p
drawing_pixel-filters s pictures f g agree d row p = by_colours (colours_of s d)
  where
    on_words : (c : ColoursRecord) (picture : Option Picture)
        → IfSome picture (λ q. All (λ w. (f (ink_of w) ≡ g (ink_of w)) × (f (paint_of w) ≡ g (paint_of w))) (words_in q.content))
        → drawing_pixel picture (Some (style_at c row f)) p ≡ drawing_pixel picture (Some (style_at c row g)) p
    on_words c None same = drawing_pixel-agree None (style_at c row f) (style_at c row g) p tt
    on_words c (Some q) same =
        drawing_pixel-agree (Some q) (style_at c row f) (style_at c row g) p
        (λ k w lt. (
          style_at-dropped c row f g (ink_of _) (same k w lt).0,
          style_at-dropped c row f g (paint_of _) (same k w lt).1,
        ))

    by_colours : (c : Option ColoursRecord)
        → drawing_pixel (pictures d) (option_map (λ c. style_at c row f) c) p
        ≡ drawing_pixel (pictures d) (option_map (λ c. style_at c row g) c) p
    by_colours None = refl
    by_colours (Some c) = on_words c (pictures d) (agree d)

AgreeOnWords-with :
    (more : Dropped → Dropped) (listed : ℕ → Bool) → ((f : Dropped) (style : ℕ) → more f style ≡ (f style || listed style))
    → (pictures : Pictures) (f g : Dropped) → AgreeOnWords pictures f g → AgreeOnWords pictures (more f) (more g)
AgreeOnWords-with more listed is pictures f g agree d = through (pictures d) (agree d)
  where
    one : (style : ℕ) → f style ≡ g style → more f style ≡ more g style
    one style same = is f style ∙ ap (λ b. b || listed style) same ∙ sym (is g style)

    through : (picture : Option Picture)
        → IfSome picture (λ q. All (λ w. (f (ink_of w) ≡ g (ink_of w)) × (f (paint_of w) ≡ g (paint_of w))) (words_in q.content))
        → IfSome picture (λ q. All (λ w. (more f (ink_of w) ≡ more g (ink_of w)) × (more f (paint_of w) ≡ more g (paint_of w))) (words_in q.content))
    through None same = tt
    through (Some q) same = λ k w lt. (one (ink_of _) (same k w lt).0, one (paint_of _) (same k w lt).1)

agrees_words :
    (s : SceneRecord) (pictures : Pictures)
    → Agrees (by_points s pictures) (by_points s pictures) (λ d image other. image ≡ other) (AgreeOnWords pictures)
    (λ style. Unit {0}) (λ q. Unit {0})
unfolding by_points
agrees_words s pictures =
    record {
      nothing = λ d. refl;
      drawing = λ d level index row f g agree.
          fun_ext (drawing_pixel-filters s pictures f g agree (number_of s.levels level index) row);
      moved = λ d q image other place same. ap (λ i p. i (minus p q)) same;
      card = λ d style bytes. refl;
      pair = λ d op x x' y y' first second. ap₂ (λ u v p. apply_of op (u p) (v p)) first second;
      blur = λ d n image other same. ap (λ i p. blurred n i p) same;
      keep = λ styles f g agree.
          AgreeOnWords-with (keeping styles) (λ style. nat_lt style 4096 && not (is_listed styles style)) (λ f style. refl)
          pictures f g agree;
      delete = λ styles f g agree.
          AgreeOnWords-with (deleting styles) (is_listed styles) (λ f style. refl) pictures f g agree;
    }

pub row_under-filters :
    (s : SceneRecord) (pictures : Pictures) (f g : Dropped) → AgreeOnWords pictures f g
    → (k row : ℕ) (p : Point) → row_under s pictures k row f p ≡ row_under s pictures k row g p
row_under-filters s pictures f g agree k row p =
    ap (λ image. image p)
    (whole_row-agrees (by_points s pictures) (by_points s pictures) (λ d image other. image ≡ other)
    (AgreeOnWords pictures) (λ style. Unit {0}) (λ q. Unit {0}) (agrees_words s pictures) s.sheets
    (λ j. meets-any (sheet_at s.sheets j)) k row f g agree)

pub value_under-filters :
    (s : SceneRecord) (pictures : Pictures) (f g : Dropped) → AgreeOnWords pictures f g
    → (k : ℕ) (n : Ref) (row : ℕ) (p : Point) → value_under s pictures k n row f p ≡ value_under s pictures k n row g p
value_under-filters s pictures f g agree k n row p =
    ap (λ image. image p)
    (whole_input-agrees (by_points s pictures) (by_points s pictures) (λ d image other. image ≡ other)
    (AgreeOnWords pictures) (λ style. Unit {0}) (λ q. Unit {0}) (agrees_words s pictures) s.sheets
    (λ j. meets-any (sheet_at s.sheets j)) k n row f g agree)

EachStyleUsed-map :
    (P Q : ℕ → Type 0) → ((style : ℕ) → P style → Q style) → (pictures : Pictures)
    → EachStyleUsed P pictures → EachStyleUsed Q pictures
EachStyleUsed-map P Q leads pictures each d = through (pictures d) (each d)
  where
    through : (picture : Option Picture)
        → IfSome picture (λ q. All (λ w. P (ink_of w) × P (paint_of w)) (words_in q.content))
        → IfSome picture (λ q. All (λ w. Q (ink_of w) × Q (paint_of w)) (words_in q.content))
    through None have = tt
    through (Some q) have = λ k w lt. (leads (ink_of _) (have k w lt).0, leads (paint_of _) (have k w lt).1)

-- to delete styles that no word uses drops nothing that is seen
pub AgreeOnWords-deleting :
    (styles : List ℕ) (pictures : Pictures) (f : Dropped) → UsesNoneOf styles pictures
    → AgreeOnWords pictures (deleting styles f) f
AgreeOnWords-deleting styles pictures f none =
    EachStyleUsed-map (λ style. is_listed styles style ≡ false) (λ style. deleting styles f style ≡ f style)
    (λ style unlisted. ap (λ b. f style || b) unlisted ∙ or-false (f style)) pictures none

-- and so does keeping at least all those that words use
pub AgreeOnWords-keeping :
    (styles : List ℕ) (pictures : Pictures) (f : Dropped) → UsesOnly styles pictures
    → AgreeOnWords pictures (keeping styles f) f
AgreeOnWords-keeping styles pictures f only =
    EachStyleUsed-map (λ style. is_listed styles style ≡ true) (λ style. keeping styles f style ≡ f style)
    (λ style listed.
    ap (λ b. f style || (nat_lt style 4096 && not b)) listed
    ∙ ap (λ b. f style || b) (and-false (nat_lt style 4096)) ∙ or-false (f style))
    pictures only
