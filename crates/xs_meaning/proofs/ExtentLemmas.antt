-- The extent of an expression is that of what it was made from, whatever the offset
use Rattle.std.proofs.Common.{ℕ, max, ◌≡◌, refl, sym, ap, ap₂, ◌∙◌, Bool, true, false, cond, Option, Some, None, is_none, unwrap_or}
use Rattle.std.proofs.lemmas.Bool.{cond_both}
use Rattle.xs_pixel.specs.Channels.{Channels}
use Rattle.xs_pixel.specs.declared.operation.Op.{Op}
use Rattle.xs_scene.specs.declared.node.Ref.{Ref}
use Rattle.xs_scene.specs.Records.{SceneRecord, ColoursRecord}
use Rattle.xs_meaning.specs.Drawings.{colours_of, number_of}
use Rattle.xs_meaning.specs.Expressions.{Expr, Clear, Leaf, Tinted, Card, Pair, Blur, is_clear, Staying, Both, First, Second, Neither, staying, pair_staying, pair_of, blur_of, card_of, leaf_by, by_offsets, row_expr, input_expr, reach_of}
use Rattle.xs_meaning.specs.Extents.{extent_of, extent_staying, wider, by_extent}
use Rattle.xs_meaning.specs.Palettes.{Dropped, keeping, deleting, is_as_written, is_clear_pixel, pixel_of, tint_at}
use Rattle.xs_pixel.specs.Points.{Point, plus}
use Rattle.xs_meaning.specs.Walk.{sheet_at, whole_row, whole_input}
use Rattle.xs_meaning.proofs.Agree.{Agrees, whole_row-agrees, whole_input-agrees, meets-any}

pub is_none-extent_of : (e : Expr) → is_none (extent_of e) ≡ is_clear e
is_none-extent_of Clear = refl
is_none-extent_of (Leaf d at) = refl
is_none-extent_of (Tinted d at tint) = refl
is_none-extent_of (Card pixel) = refl
is_none-extent_of (Pair op a b) = refl
is_none-extent_of (Blur n a) = refl

pub unwrap_or-extent_of : (e : Expr) → unwrap_or (extent_of e) 0 ≡ reach_of e
unwrap_or-extent_of Clear = refl
unwrap_or-extent_of (Leaf d at) = refl
unwrap_or-extent_of (Tinted d at tint) = refl
unwrap_or-extent_of (Card pixel) = refl
unwrap_or-extent_of (Pair op a b) = refl
unwrap_or-extent_of (Blur n a) = refl

extent-pair_staying :
    (stays : Staying) (op : Op) (a b : Expr)
    → extent_of (pair_staying stays op a b) ≡ extent_staying stays (extent_of a) (extent_of b)
extent-pair_staying Both op a b =
    ap₂ (λ x y. Some (max x y)) (sym (unwrap_or-extent_of a)) (sym (unwrap_or-extent_of b))
extent-pair_staying First op a b = refl
extent-pair_staying Second op a b = refl
extent-pair_staying Neither op a b = refl

extent-pair_of :
    (op : Op) (a b : Expr)
    → extent_of (pair_of op a b)
    ≡ extent_staying (staying op (is_none (extent_of a)) (is_none (extent_of b))) (extent_of a) (extent_of b)
extent-pair_of op a b =
    extent-pair_staying (staying op (is_clear a) (is_clear b)) op a b
    ∙ ap₂ (λ x y. extent_staying (staying op x y) (extent_of a) (extent_of b))
    (sym (is_none-extent_of a)) (sym (is_none-extent_of b))

extent-blur_of : (n : ℕ) (a : Expr) → extent_of (blur_of n a) ≡ wider n (extent_of a)
extent-blur_of n Clear = refl
extent-blur_of n (Leaf d at) = refl
extent-blur_of n (Tinted d at tint) = refl
extent-blur_of n (Card pixel) = refl
extent-blur_of n (Pair op a b) = refl
extent-blur_of n (Blur m a) = refl

extent-card_of : (pixel : Channels) → extent_of (card_of pixel) ≡ cond (is_clear_pixel pixel) None (Some 0)
extent-card_of pixel =
    by_cases (is_clear_pixel pixel)
  where
    by_cases : (b : Bool) → extent_of (cond b Clear (Card pixel)) ≡ cond b None (Some 0)
    by_cases true = refl
    by_cases false = refl

extent-leaf_by :
    (c : Option ColoursRecord) (d row : ℕ) (f : Dropped) (at : Point) → extent_of (leaf_by c d row f at) ≡ Some 0
extent-leaf_by None d row f at = refl
extent-leaf_by (Some c) d row f at =
    cond_both (is_as_written c row f) (Leaf d at) (Tinted d at (tint_at c row f)) (λ e. extent_of e ≡ Some 0)
    (λ passes. refl) (λ fails. refl)

abbrev HasExtent : (Point → Expr) → Option ℕ → Type 0
HasExtent e extent = (o : Point) → extent_of (e o) ≡ extent

agrees :
    (s : SceneRecord)
    → Agrees (by_offsets s) by_extent (λ d e extent. HasExtent e extent) (λ f g. f ≡ g) (λ style. Unit {0})
    (λ q. Unit {0})
unfolding by_offsets by_extent
agrees s =
    record {
      nothing = λ d o. refl;
      drawing = λ d level index row f g same o.
          let number = number_of s.levels level index in extent-leaf_by (colours_of s number) number row f o;
      moved = λ d q e extent place at o. at (plus o q);
      card = λ d style bytes o. extent-card_of (pixel_of style);
      pair = λ d op a b x y first second o.
          extent-pair_of op (a o) (b o)
          ∙ ap₂ (λ x y. extent_staying (staying op (is_none x) (is_none y)) x y) (first o) (second o);
      blur = λ d n e extent at o. extent-blur_of n (e o) ∙ ap (wider n) (at o);
      keep = λ styles f g same. ap (keeping styles) same;
      delete = λ styles f g same. ap (deleting styles) same;
    }

pub extent-row_expr :
    (s : SceneRecord) (k row : ℕ) (f : Dropped) (o : Point)
    → extent_of (row_expr s k row f o) ≡ whole_row by_extent s.sheets k row f
extent-row_expr s k row f =
    whole_row-agrees (by_offsets s) by_extent (λ d e extent. HasExtent e extent) (λ f g. f ≡ g)
    (λ style. Unit {0}) (λ q. Unit {0}) (agrees s) s.sheets (λ j. meets-any (sheet_at s.sheets j)) k row f f refl

pub extent-input_expr :
    (s : SceneRecord) (k : ℕ) (n : Ref) (row : ℕ) (f : Dropped) (o : Point)
    → extent_of (input_expr s k n row f o) ≡ whole_input by_extent s.sheets k n row f
extent-input_expr s k n row f =
    whole_input-agrees (by_offsets s) by_extent (λ d e extent. HasExtent e extent) (λ f g. f ≡ g)
    (λ style. Unit {0}) (λ q. Unit {0}) (agrees s) s.sheets (λ j. meets-any (sheet_at s.sheets j)) k n row f f refl
