-- What is shown is told without offsets and dropped styles, and rule by rule
use Rattle.std.proofs.Common.{◌≡◌, ℕ, ◌-◌, Bool, true, false, cond, ◌&&◌, ◌++◌, Option, Some, None, List, [], ◌∷◌, map, is_none, slice_get, refl, sym, ap, ap₂, ◌∙◌, append-nil, append_assoc}
use Rattle.std.specs.List.{list_all}
use Rattle.std.proofs.Math.Bool.{and-true}
use Rattle.std.proofs.lemmas.Bool.{cond_both}
use mathlib.Core.Path.{fun_ext}
use Rattle.xs_pixel.specs.Channels.{Channels}
use Rattle.xs_pixel.specs.declared.operation.Op.{Op}
use Rattle.xs_pixel.specs.declared.operation.Op.TheVariants.{Over as OverOp}
use Rattle.xs_scene.specs.declared.node.Ref.{Ref}
use Rattle.xs_scene.specs.Records.{SceneRecord, ColoursRecord, LevelRecord}
use Rattle.xs_meaning.specs.Drawings.{colours_of, number_of}
use Rattle.xs_meaning.specs.Ends.{AllEnd}
use Rattle.xs_meaning.specs.Expressions.{Expr, Clear, Leaf, Tinted, Card, Pair, Blur, is_clear, Staying, Both, First, Second, Neither, staying, pair_staying, pair_of, blur_of, card_of, leaf_by, by_offsets, row_expr, drawings_of}
use Rattle.xs_meaning.specs.Palettes.{Dropped, none_dropped, keeping, deleting, is_as_written, is_clear_pixel, pixel_of, tint_at}
use Rattle.xs_pixel.specs.Points.{Point, plus}
use Rattle.xs_meaning.specs.Walk.{sheet_at, whole_row, whole_input, depth_of, composed_by, above_by}
use Rattle.xs_meaning.proofs.Agree.{Agrees, row_walk-agrees, walk-agrees, meets-any}
use Rattle.xs_step.specs.declared.spot.At.{At}
use Rattle.xs_step.specs.declared.spot.At.TheVariants.{Row, Input}
use Rattle.xs_step.specs.declared.spot.Spot.{Spot}
use Rattle.xs_step.specs.Readings.{answer_in, answer_at, step_by}
use Rattle.xs_step.specs.Spots.{spot}
use Rattle.xs_step.specs.Steps.{step_of}
use Rattle.xs_step.proofs.Readings.{answer-step}
use Rattle.xs_needs.specs.Shown.{Showing, drawings_in, drawings_over, showing_of, showing_staying, by_showing, shown, showing_by}

-- ---- what an expression shows

is_none-showing_of : (e : Expr) → is_none (showing_of e) ≡ is_clear e
is_none-showing_of Clear = refl
is_none-showing_of (Leaf d at) = refl
is_none-showing_of (Tinted d at tint) = refl
is_none-showing_of (Card pixel) = refl
is_none-showing_of (Pair op a b) = refl
is_none-showing_of (Blur n a) = refl

drawings_in-showing_of : (e : Expr) → drawings_in (showing_of e) ≡ drawings_of e
drawings_in-showing_of Clear = refl
drawings_in-showing_of (Leaf d at) = refl
drawings_in-showing_of (Tinted d at tint) = refl
drawings_in-showing_of (Card pixel) = refl
drawings_in-showing_of (Pair op a b) = refl
drawings_in-showing_of (Blur n a) = refl

showing-pair_staying :
    (stays : Staying) (op : Op) (a b : Expr)
    → showing_of (pair_staying stays op a b) ≡ showing_staying stays (showing_of a) (showing_of b)
showing-pair_staying Both op a b =
    ap₂ (λ x y. Some (x ++ y)) (sym (drawings_in-showing_of a)) (sym (drawings_in-showing_of b))
showing-pair_staying First op a b = refl
showing-pair_staying Second op a b = refl
showing-pair_staying Neither op a b = refl

showing-pair_of :
    (op : Op) (a b : Expr)
    → showing_of (pair_of op a b)
    ≡ showing_staying (staying op (is_none (showing_of a)) (is_none (showing_of b))) (showing_of a) (showing_of b)
showing-pair_of op a b =
    showing-pair_staying (staying op (is_clear a) (is_clear b)) op a b
    ∙ ap₂ (λ x y. showing_staying (staying op x y) (showing_of a) (showing_of b))
    (sym (is_none-showing_of a)) (sym (is_none-showing_of b))

showing-blur_of : (n : ℕ) (a : Expr) → showing_of (blur_of n a) ≡ showing_of a
showing-blur_of n Clear = refl
showing-blur_of n (Leaf d at) = refl
showing-blur_of n (Tinted d at tint) = refl
showing-blur_of n (Card pixel) = refl
showing-blur_of n (Pair op a b) = refl
showing-blur_of n (Blur m a) = refl

showing-card_of : (pixel : Channels) → showing_of (card_of pixel) ≡ cond (is_clear_pixel pixel) None (Some [])
showing-card_of pixel =
    by_cases (is_clear_pixel pixel)
  where
    by_cases : (b : Bool) → showing_of (cond b Clear (Card pixel)) ≡ cond b None (Some [])
    by_cases true = refl
    by_cases false = refl

showing-leaf_by :
    (c : Option ColoursRecord) (d row : ℕ) (f : Dropped) (at : Point) → showing_of (leaf_by c d row f at) ≡ Some (d ∷ [])
showing-leaf_by None d row f at = refl
showing-leaf_by (Some c) d row f at =
    cond_both (is_as_written c row f) (Leaf d at) (Tinted d at (tint_at c row f)) (λ e. showing_of e ≡ Some (d ∷ []))
    (λ passes. refl) (λ fails. refl)

abbrev Shows : (Point → Expr) → Showing → Type 0
Shows e showing = (o : Point) → showing_of (e o) ≡ showing

agrees :
    (s : SceneRecord)
    → Agrees (by_offsets s) (by_showing s.levels) (λ d e showing. Shows e showing) (λ f g. f ≡ g)
    (λ style. Unit {0}) (λ q. Unit {0})
unfolding by_offsets
agrees s =
    record {
      nothing = λ d o. refl;
      drawing = λ d level index row f g same o.
          let number = number_of s.levels level index in showing-leaf_by (colours_of s number) number row f o;
      moved = λ d q e showing place at o. at (plus o q);
      card = λ d style bytes o. showing-card_of (pixel_of style);
      pair = λ d op a b x y first second o.
          showing-pair_of op (a o) (b o)
          ∙ ap₂ (λ x y. showing_staying (staying op (is_none x) (is_none y)) x y) (first o) (second o);
      blur = λ d n e showing at o. showing-blur_of n (e o) ∙ at o;
      keep = λ styles f g same. ap (keeping styles) same;
      delete = λ styles f g same. ap (deleting styles) same;
    }

showing-row_expr :
    (s : SceneRecord) (k row : ℕ) (f : Dropped) (o : Point)
    → showing_of (row_expr s k row f o) ≡ whole_row (by_showing s.levels) s.sheets k row f
showing-row_expr s k row f =
    row_walk-agrees (by_offsets s) (by_showing s.levels) (λ d e showing. Shows e showing) (λ f g. f ≡ g)
    (λ style. Unit {0}) (λ q. Unit {0}) (agrees s) s.sheets (λ j. meets-any (sheet_at s.sheets j))
    16 k row f f refl

-- ---- the dropped styles do not matter

alike :
    (levels : List LevelRecord)
    → Agrees (by_showing levels) (by_showing levels) (λ d a b. a ≡ b) (λ f g. Unit {0})
    (λ style. Unit {0}) (λ q. Unit {0})
alike levels =
    record {
      nothing = λ d. refl;
      drawing = λ d level index row f g same. refl;
      moved = λ d q a b place same. same;
      card = λ d style bytes. refl;
      pair = λ d op a a' b b' first second.
          ap₂ (λ x y. showing_staying (staying op (is_none x) (is_none y)) x y) first second;
      blur = λ d n a b same. same;
      keep = λ styles f g same. tt;
      delete = λ styles f g same. tt;
    }

row-any_dropped :
    (s : SceneRecord) (k row : ℕ) (f g : Dropped)
    → whole_row (by_showing s.levels) s.sheets k row f ≡ whole_row (by_showing s.levels) s.sheets k row g
row-any_dropped s k row f g =
    row_walk-agrees (by_showing s.levels) (by_showing s.levels) (λ d a b. a ≡ b) (λ f g. Unit {0})
    (λ style. Unit {0}) (λ q. Unit {0}) (alike s.levels) s.sheets (λ j. meets-any (sheet_at s.sheets j))
    16 k row f g tt

input-any_dropped :
    (s : SceneRecord) (k : ℕ) (n : Ref) (row : ℕ) (f g : Dropped)
    → whole_input (by_showing s.levels) s.sheets k n row f ≡ whole_input (by_showing s.levels) s.sheets k n row g
input-any_dropped s k n row f g =
    walk-agrees (by_showing s.levels) (by_showing s.levels) (λ d a b. a ≡ b) (λ f g. Unit {0})
    (λ style. Unit {0}) (λ q. Unit {0}) (alike s.levels)
    16 (whole_row (by_showing s.levels) s.sheets) (whole_row (by_showing s.levels) s.sheets)
    (λ j row f g same. row-any_dropped s j row f g)
    (sheet_at s.sheets k) (meets-any (sheet_at s.sheets k)) (depth_of (sheet_at s.sheets k)) n row f g tt

-- the drawings of a row's expression are those that its spot shows
pub drawings-row_expr :
    (s : SceneRecord) (k row : ℕ) (f : Dropped) (o : Point)
    → drawings_of (row_expr s k row f o) ≡ drawings_in (shown s (spot k Row row))
unfolding shown answer_at
drawings-row_expr s k row f o =
    sym (drawings_in-showing_of (row_expr s k row f o))
    ∙ ap drawings_in (showing-row_expr s k row f o ∙ row-any_dropped s k row f none_dropped)

pub clear-row_expr :
    (s : SceneRecord) (k row : ℕ) (f : Dropped) (o : Point)
    → is_clear (row_expr s k row f o) ≡ is_none (shown s (spot k Row row))
unfolding shown answer_at
clear-row_expr s k row f o =
    sym (is_none-showing_of (row_expr s k row f o))
    ∙ ap is_none (showing-row_expr s k row f o ∙ row-any_dropped s k row f none_dropped)

-- ---- rows: one over the other

over-none :
    (x w : Showing)
    → is_none (showing_staying (staying OverOp (is_none x) (is_none w)) x w) ≡ (is_none x && is_none w)
over-none None w = refl
over-none (Some a) None = refl
over-none (Some a) (Some b) = refl

over-drawings :
    (x w : Showing)
    → drawings_in (showing_staying (staying OverOp (is_none x) (is_none w)) x w) ≡ drawings_in x ++ drawings_in w
over-drawings None w = refl
over-drawings (Some a) None = sym (append-nil a)
over-drawings (Some a) (Some b) = refl

above-drawings :
    (levels : List LevelRecord) (E : Ref → Showing) (ts : List Ref) (was : Showing)
    → drawings_in (above_by (by_showing levels) was (map E ts)) ≡ drawings_over E ts ++ drawings_in was
above-drawings levels E [] was = refl
above-drawings levels E (t ∷ ts) was =
    let next = showing_staying (staying OverOp (is_none (E t)) (is_none was)) (E t) was in
    above-drawings levels E ts next
    ∙ ap (λ l. drawings_over E ts ++ l) (over-drawings (E t) was)
    ∙ sym (append_assoc (drawings_over E ts) (drawings_in (E t)) (drawings_in was))

pub composed-drawings :
    (levels : List LevelRecord) (E : Ref → Showing) (ts : List Ref)
    → drawings_in (composed_by (by_showing levels) (map E ts)) ≡ drawings_over E ts
composed-drawings levels E [] = refl
composed-drawings levels E (t ∷ ts) = above-drawings levels E ts (E t)

and_turned : (x w r : Bool) → ((x && w) && r) ≡ (w && (x && r))
and_turned true true r = refl
and_turned true false r = refl
and_turned false true r = refl
and_turned false false r = refl

above-none :
    (levels : List LevelRecord) (E : Ref → Showing) (ts : List Ref) (was : Showing)
    → is_none (above_by (by_showing levels) was (map E ts)) ≡ (is_none was && list_all (λ t. is_none (E t)) ts)
above-none levels E [] was = sym (and-true (is_none was))
above-none levels E (t ∷ ts) was =
    let next = showing_staying (staying OverOp (is_none (E t)) (is_none was)) (E t) was in
    above-none levels E ts next
    ∙ ap (λ b. b && list_all (λ t. is_none (E t)) ts) (over-none (E t) was)
    ∙ and_turned (is_none (E t)) (is_none was) (list_all (λ t. is_none (E t)) ts)

pub composed-none :
    (levels : List LevelRecord) (E : Ref → Showing) (ts : List Ref)
    → is_none (composed_by (by_showing levels) (map E ts)) ≡ list_all (λ t. is_none (E t)) ts
composed-none levels E [] = refl
composed-none levels E (t ∷ ts) = above-none levels E ts (E t)

-- ---- step by step

answer-any_dropped :
    (s : SceneRecord) (p : Spot) (f : Dropped) → answer_at (by_showing s.levels) s p f ≡ shown s p
unfolding answer_at shown
answer-any_dropped s p f = by_place p.at
  where
    by_place : (at : At)
        → answer_in (by_showing s.levels) s p.sheet at p.row f ≡ answer_in (by_showing s.levels) s p.sheet at p.row none_dropped
    by_place Row = row-any_dropped s p.sheet p.row f none_dropped
    by_place (Input n) = input-any_dropped s p.sheet n p.row f none_dropped

-- what a spot shows is told by its step
pub shown-step :
    (s : SceneRecord) → AllEnd s.sheets → (p : Spot) → shown s p ≡ showing_by s (shown s) p (step_of s p)
shown-step s ends p =
    sym (answer-any_dropped s p none_dropped)
    ∙ answer-step (by_showing s.levels) s (λ q. refl) ends p none_dropped
    ∙ ap (λ E. step_by (by_showing s.levels) E p none_dropped (step_of s p))
    (fun_ext (λ q. fun_ext (λ f. answer-any_dropped s q f)))
