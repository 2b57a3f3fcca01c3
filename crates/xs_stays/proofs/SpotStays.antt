-- What stays of spots is told without the styles that are dropped above, and step by step
use Rattle.std.proofs.Common.{◌≡◌, ℕ, Bool, true, false, not, ◌&&◌, ◌||◌, cond, eqb, Option, Some, None, List, [], ◌∷◌, map, slice_get, is_none, refl, sym, ap, ap₂, ◌∙◌}
use mathlib.Core.Path.{fun_ext}
use Rattle.xs_pixel.specs.Channels.{clear}
use Rattle.xs_pixel.specs.Points.{Point}
use Rattle.xs_pixel.specs.declared.operation.Op.{Op}
use Rattle.xs_pixel.specs.declared.operation.Op.TheVariants.{Over as OverOp}
use Rattle.xs_scene.specs.declared.node.Ref.{Ref}
use Rattle.xs_scene.specs.Records.{SceneRecord, ColoursRecord}
use Rattle.xs_meaning.specs.Drawings.{colours_of, number_of}
use Rattle.xs_meaning.specs.Ends.{AllEnd}
use Rattle.xs_meaning.specs.Expressions.{Staying, Both, First, Second, Neither, staying}
use Rattle.xs_meaning.specs.Palettes.{Dropped, none_dropped, keeping, deleting, style_at, key_at, keyed_pixel, is_clear_pixel, pixel_of}
use Rattle.xs_meaning.specs.Walk.{sheet_at, composed_by, above_by}
use Rattle.xs_meaning.proofs.Agree.{Agrees, whole_row-agrees, whole_input-agrees, meets-any}
use Rattle.xs_step.specs.declared.spot.At.{At}
use Rattle.xs_step.specs.declared.spot.At.TheVariants.{Row, Input}
use Rattle.xs_step.specs.declared.spot.Spot.{Spot}
use Rattle.xs_step.specs.declared.step.Step.{Step}
use Rattle.xs_step.specs.declared.step.Step.TheVariants.{Clear, Drawing, Nested, Same, Keep, Delete, Pair, Blur, Card, Over}
use Rattle.xs_step.specs.Readings.{answer_in, answer_at, step_by}
use Rattle.xs_step.specs.Steps.{step_of}
use Rattle.xs_step.proofs.Readings.{answer-step}
use Rattle.xs_stays.specs.Stays.{Stay, no_drawing, stay_or, stay_staying, unclear, by_stay, stay_at, less, stay_by}

-- ---- the styles that are dropped above count no more

-- dropped styles are those that are dropped on the way, and those that are dropped above
abbrev pub IsWith : Dropped → Dropped → Dropped → Type 0
IsWith above f g = (style : ℕ) → f style ≡ (g style || above style)

or-move : (a b x y : Bool) → x ≡ (a || b) → (x || y) ≡ ((a || y) || b)
or-move true b x true is = rw is refl
or-move true b x false is = rw is refl
or-move false true x true is = rw is refl
or-move false true x false is = rw is refl
or-move false false x true is = rw is refl
or-move false false x false is = rw is refl

pub with-keep : (above : Dropped) (styles : List ℕ) (f g : Dropped) → IsWith above f g → IsWith above (keeping styles f) (keeping styles g)
with-keep above styles f g is style = or-move (g style) (above style) (f style) _ (is style)

pub with-delete : (above : Dropped) (styles : List ℕ) (f g : Dropped) → IsWith above f g → IsWith above (deleting styles f) (deleting styles g)
with-delete above styles f g is style = or-move (g style) (above style) (f style) _ (is style)

unclear-by :
    (zeroth f g above : Bool) (pixel : _) → f ≡ (g || above)
    → not (is_clear_pixel (cond (zeroth || f) clear pixel)) ≡ (not (is_clear_pixel (cond (zeroth || g) clear pixel)) && not above)
unclear-by true f g above pixel is = refl
unclear-by false f true above pixel is = rw is refl
unclear-by false f false true pixel is = rw is (and-false (not (is_clear_pixel pixel)))
  where
    and-false : (b : Bool) → false ≡ (b && false)
    and-false true = refl
    and-false false = refl
unclear-by false f false false pixel is = rw is (and-true (not (is_clear_pixel pixel)))
  where
    and-true : (b : Bool) → b ≡ (b && true)
    and-true true = refl
    and-true false = refl

unclear-with :
    (c : Option ColoursRecord) (row : ℕ) (f g above : Dropped) → IsWith above f g → (style : ℕ)
    → unclear c row f style ≡ (unclear c row g style && not (above style))
unfolding style_at
unclear-with None row f g above is style = refl
unclear-with (Some c) row f g above is style =
    unclear-by (eqb style 0) (f style) (g style) (above style) (keyed_pixel (key_at c row style) (slice_get c.styles style)) (is style)

less-is_none : (f : Dropped) (a : Option Stay) → is_none (less f a) ≡ is_none a
less-is_none f None = refl
less-is_none f (Some a) = refl

and-or : (a b c : Bool) → ((a || b) && not c) ≡ ((a && not c) || (b && not c))
and-or true true true = refl
and-or true true false = refl
and-or true false true = refl
and-or true false false = refl
and-or false true true = refl
and-or false true false = refl
and-or false false true = refl
and-or false false false = refl

less-or : (f : Dropped) (a : Option Stay) → (style : ℕ) → (stay_or (less f a)).counts style ≡ ((stay_or a).counts style && not (f style))
less-or f None style = refl
less-or f (Some a) style = refl

less-drawing : (f : Dropped) (a : Option Stay) → (stay_or (less f a)).drawing ≡ (stay_or a).drawing
less-drawing f None = refl
less-drawing f (Some a) = refl

less-staying :
    (st : Staying) (f : Dropped) (a b : Option Stay) → less f (stay_staying st a b) ≡ stay_staying st (less f a) (less f b)
less-staying Both f a b =
    ap₂ (λ (drawing : Bool) (counts : ℕ → Bool). Some (record { drawing = drawing; counts = counts }))
    (ap₂ (λ x y. x || y) (sym (less-drawing f a)) (sym (less-drawing f b)))
    (fun_ext (λ style.
    and-or ((stay_or a).counts style) ((stay_or b).counts style) (f style)
    ∙ ap₂ (λ x y. x || y) (sym (less-or f a style)) (sym (less-or f b style))))
less-staying First f a b = refl
less-staying Second f a b = refl
less-staying Neither f a b = refl

less-pair :
    (op : Op) (f : Dropped) (a b : Option Stay)
    → less f (stay_staying (staying op (is_none a) (is_none b)) a b)
    ≡ stay_staying (staying op (is_none (less f a)) (is_none (less f b))) (less f a) (less f b)
less-pair op f a b =
    less-staying (staying op (is_none a) (is_none b)) f a b
    ∙ ap₂ (λ x y. stay_staying (staying op x y) (less f a) (less f b)) (sym (less-is_none f a)) (sym (less-is_none f b))

less-card : (f : Dropped) (b : Bool) → cond b None (Some no_drawing) ≡ less f (cond b None (Some no_drawing))
less-card f true = refl
less-card f false = refl

agrees :
    (s : SceneRecord) (above : Dropped)
    → Agrees (by_stay s) (by_stay s) (λ d a b. a ≡ less above b) (IsWith above) (λ style. Unit {0}) (λ q. Unit {0})
unfolding by_stay
agrees s above =
    record {
      nothing = λ d. refl;
      drawing = λ d level index row f g is.
          ap (λ (counts : ℕ → Bool). Some (record { drawing = true; counts = counts }))
          (fun_ext (unclear-with (colours_of s (number_of s.levels level index)) row f g above is));
      moved = λ d q a b place same. same;
      card = λ d style bytes. less-card above (is_clear_pixel (pixel_of style));
      pair = λ d op a a' b b' first second.
          ap₂ (λ x y. stay_staying (staying op (is_none x) (is_none y)) x y) first second ∙ sym (less-pair op above b b');
      blur = λ d n a b same. same;
      keep = with-keep above;
      delete = with-delete above;
    }

pub answer-less : (s : SceneRecord) (p : Spot) (f : Dropped) → answer_at (by_stay s) s p f ≡ less f (stay_at s p)
unfolding answer_at stay_at
answer-less s p f = by_place p.at
  where
    by_place : (at : At)
        → answer_in (by_stay s) s p.sheet at p.row f ≡ less f (answer_in (by_stay s) s p.sheet at p.row none_dropped)
    by_place Row =
        whole_row-agrees (by_stay s) (by_stay s) (λ d a b. a ≡ less f b) (IsWith f) (λ style. Unit {0}) (λ q. Unit {0})
        (agrees s f) s.sheets (λ j. meets-any (sheet_at s.sheets j)) p.sheet p.row f none_dropped (λ style. refl)
    by_place (Input n) =
        whole_input-agrees (by_stay s) (by_stay s) (λ d a b. a ≡ less f b) (IsWith f) (λ style. Unit {0}) (λ q. Unit {0})
        (agrees s f) s.sheets (λ j. meets-any (sheet_at s.sheets j)) p.sheet n p.row f none_dropped (λ style. refl)

-- ---- step by step

and-true : (b : Bool) → (b && true) ≡ b
and-true true = refl
and-true false = refl

less-none : (a : Option Stay) → less none_dropped a ≡ a
less-none None = refl
less-none (Some a) =
    ap (λ (counts : ℕ → Bool). Some (record { drawing = a.drawing; counts = counts })) (fun_ext (λ style. and-true (a.counts style)))

all-less-none : (s : SceneRecord) → (λ (q : Spot). less none_dropped (stay_at s q)) ≡ stay_at s
all-less-none s = fun_ext (λ q. less-none (stay_at s q))

step-less :
    (s : SceneRecord) (p : Spot) (step : Step)
    → step_by (by_stay s) (λ q f. less f (stay_at s q)) p none_dropped step ≡ stay_by s p step
unfolding by_stay
step-less s p Clear = refl
step-less s p (Drawing level index offset) = refl
step-less s p (Nested row offset) = less-none (stay_at s row)
step-less s p (Same next) = less-none (stay_at s next)
step-less s p (Keep next styles) = refl
step-less s p (Delete next styles) = refl
step-less s p (Pair op first second) =
    ap (λ (E : Spot → Option Stay). stay_staying (staying op (is_none (E first)) (is_none (E second))) (E first) (E second)) (all-less-none s)
step-less s p (Blur radius next) = less-none (stay_at s next)
step-less s p (Card style) = refl
step-less s p (Over terminals) =
    ap (λ (E : Spot → Option Stay). step_by (by_stay s) (λ q f. E q) p none_dropped (Over terminals)) (all-less-none s)

pub stay-step : (s : SceneRecord) → AllEnd s.sheets → (p : Spot) → stay_at s p ≡ stay_by s p (step_of s p)
unfolding by_stay
stay-step s ends p =
    sym (less-none (stay_at s p))
    ∙ sym (answer-less s p none_dropped)
    ∙ answer-step (by_stay s) s same_moved ends p none_dropped
    ∙ ap (λ E. step_by (by_stay s) E p none_dropped (step_of s p)) (fun_ext (λ q. fun_ext (λ f. answer-less s q f)))
    ∙ step-less s p (step_of s p)
  where
    same_moved : (q : Point) → (by_stay s).moved q (by_stay s).nothing ≡ (by_stay s).nothing
    same_moved q = refl

-- ---- rows: one over the other

over-nothing : (x : Option Stay) → stay_staying (staying OverOp (is_none x) true) x None ≡ x
over-nothing None = refl
over-nothing (Some a) = refl

pub above-nothing :
    (s : SceneRecord) (E : Ref → Option Stay) (ts : List Ref)
    → above_by (by_stay s) None (map E ts) ≡ composed_by (by_stay s) (map E ts)
unfolding by_stay
above-nothing s E [] = refl
above-nothing s E (t ∷ ts) = ap (λ was. above_by (by_stay s) was (map E ts)) (over-nothing (E t))
