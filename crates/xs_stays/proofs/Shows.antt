-- Expressions are the same just where what stays is told alike
use Rattle.std.proofs.Common.{◌≡◌, ℕ, Bool, true, false, not, ◌||◌, cond, eqb, Option, Some, None, List, [], ◌∷◌, slice_get, is_none, refl, sym, ap, ap₂, ◌∙◌, subst, ◌⊎◌, inl, inr, ⊎_elim, arith}
use Rattle.std.proofs.lemmas.Int.{ints}
use Rattle.std.proofs.lemmas.Bool.{cond_both, and_parts, false≢true}
use mathlib.Core.Path.{fun_ext}
use Rattle.xs_pixel.specs.Channels.{Channels, clear}
use Rattle.xs_pixel.specs.Points.{Point, plus, origin}
use Rattle.xs_pixel.specs.declared.operation.Op.{Op}
use Rattle.xs_scene.specs.Records.{SceneRecord, ColoursRecord}
use Rattle.xs_meaning.specs.Drawings.{colours_of, number_of}
use Rattle.xs_meaning.specs.Expressions.{Expr, Clear, Leaf, Tinted, Card, Pair, Blur, is_clear, Staying, Both, First, Second, Neither, staying, pair_staying, pair_of, blur_of, leaf_by, by_offsets}
use Rattle.xs_meaning.specs.Palettes.{Dropped, none_dropped, keeping, deleting, as_written, style_at, key_at, keyed_pixel, same_pixel, same_pixels, is_clear_pixel, pixel_of, tint_by, tint_at, tint_style}
use Rattle.xs_meaning.specs.Walk.{sheet_at}
use Rattle.xs_meaning.proofs.Agree.{Agrees, whole_row-agrees, whole_input-agrees, meets-any}
use Rattle.xs_step.specs.declared.spot.At.{At}
use Rattle.xs_step.specs.declared.spot.At.TheVariants.{Row, Input}
use Rattle.xs_step.specs.declared.spot.Spot.{Spot}
use Rattle.xs_step.specs.Readings.{answer_in, answer_at}
use Rattle.xs_stays.specs.Stays.{Stay, no_drawing, stay_or, either, stay_staying, unclear, by_stay, stay_at, AreAlike, IsNormal}
use Rattle.xs_stays.proofs.Offsets.{by_above, answer-above}

-- expressions, by the styles that are dropped above and the offset, tell these apart
pub record Shows (a : Option Stay) (e : Dropped → Point → Expr) : Type 0 where
  pub clear : (f : Dropped) (o : Point) → is_clear (e f o) ≡ is_none a
  pub same : (f g : Dropped) (o q : Point) → AreAlike (stay_or a) f o g q → e f o ≡ e g q
  pub tells : (f g : Dropped) (o q : Point) → e f o ≡ e g q → AreAlike (stay_or a) f o g q

alike-nothing : (f g : Dropped) (o q : Point) → AreAlike no_drawing f o g q
alike-nothing f g o q = record { offset = λ is. absurd (false≢true is); dropped = λ style is. absurd (false≢true is) }

-- ---- offsets

plus-cancel : (o q r : Point) → plus o r ≡ plus q r → o ≡ q
plus-cancel o q r same =
    let x : o.x ≡ q.x = omega (arith, ints, ap (λ (p : Point). p.x) same) in
    let y : o.y ≡ q.y = omega (arith, ints, ap (λ (p : Point). p.y) same) in
    λ i. record { x = x i; y = y i }

shows-moved : (a : Option Stay) (e : Dropped → Point → Expr) (r : Point) → Shows a e → Shows a (λ f o. e f (plus o r))
shows-moved a e r shows =
    record {
      clear = λ f o. shows.clear f (plus o r);
      same = λ f g o q alike.
          shows.same f g (plus o r) (plus q r)
          (record { offset = λ is. ap (λ p. plus p r) (alike.offset is); dropped = alike.dropped });
      tells = λ f g o q is.
          let alike = shows.tells f g (plus o r) (plus q r) is in
          record { offset = λ is. plus-cancel o q r (alike.offset is); dropped = alike.dropped };
    }

-- ---- pairs

or_true : (b : Bool) → (b || true) ≡ true
or_true true = refl
or_true false = refl

or-cases : (a b : Bool) → (a || b) ≡ true → (a ≡ true) ⊎ (b ≡ true)
or-cases true b is = inl refl
or-cases false b is = inr is

alike-first : (a b : Stay) (f g : Dropped) (o q : Point) → AreAlike (either a b) f o g q → AreAlike a f o g q
alike-first a b f g o q alike =
    record {
      offset = λ is. alike.offset (ap (λ x. x || b.drawing) is);
      dropped = λ style is. alike.dropped style (ap (λ x. x || b.counts style) is);
    }

alike-second : (a b : Stay) (f g : Dropped) (o q : Point) → AreAlike (either a b) f o g q → AreAlike b f o g q
alike-second a b f g o q alike =
    record {
      offset = λ is. alike.offset (ap (λ x. a.drawing || x) is ∙ or_true a.drawing);
      dropped = λ style is. alike.dropped style (ap (λ x. a.counts style || x) is ∙ or_true (a.counts style));
    }

alike-both : (a b : Stay) (f g : Dropped) (o q : Point) → AreAlike a f o g q → AreAlike b f o g q → AreAlike (either a b) f o g q
alike-both a b f g o q first second =
    record {
      offset = λ is. ⊎_elim first.offset second.offset (or-cases a.drawing b.drawing is);
      dropped = λ style is. ⊎_elim (first.dropped style) (second.dropped style) (or-cases (a.counts style) (b.counts style) is);
    }

abbrev first_of : Expr → Expr
first_of (Pair op a b) = a
first_of e = Clear

abbrev second_of : Expr → Expr
second_of (Pair op a b) = b
second_of e = Clear

shows-staying :
    (st : Staying) (op : Op) (a b : Option Stay) (d e : Dropped → Point → Expr) → Shows a d → Shows b e
    → Shows (stay_staying st a b) (λ f o. pair_staying st op (d f o) (e f o))
shows-staying Both op a b d e first second =
    record {
      clear = λ f o. refl;
      same = λ f g o q alike.
          ap₂ (Pair op)
          (first.same f g o q (alike-first (stay_or a) (stay_or b) f g o q alike))
          (second.same f g o q (alike-second (stay_or a) (stay_or b) f g o q alike));
      tells = λ f g o q is.
          alike-both (stay_or a) (stay_or b) f g o q (first.tells f g o q (ap first_of is)) (second.tells f g o q (ap second_of is));
    }
shows-staying First op a b d e first second = first
shows-staying Second op a b d e first second = second
shows-staying Neither op a b d e first second =
    record { clear = λ f o. refl; same = λ f g o q alike. refl; tells = λ f g o q is. alike-nothing f g o q }

shows-pair :
    (op : Op) (a b : Option Stay) (d e : Dropped → Point → Expr) → Shows a d → Shows b e
    → Shows (stay_staying (staying op (is_none a) (is_none b)) a b) (λ f o. pair_of op (d f o) (e f o))
shows-pair op a b d e first second =
    let along : (λ (f : Dropped) (o : Point). pair_staying (staying op (is_none a) (is_none b)) op (d f o) (e f o))
    ≡ (λ f o. pair_of op (d f o) (e f o)) =
    fun_ext (λ f. fun_ext (λ o.
    ap₂ (λ (x y : Bool). pair_staying (staying op x y) op (d f o) (e f o)) (sym (first.clear f o)) (sym (second.clear f o)))) in
    subst (Shows (stay_staying (staying op (is_none a) (is_none b)) a b)) along
    (shows-staying (staying op (is_none a) (is_none b)) op a b d e first second)

-- ---- blurs and cards

abbrev input_of : Expr → Expr
input_of (Blur n a) = a
input_of e = e

input-blur_of : (n : ℕ) (e : Expr) → input_of (blur_of n e) ≡ e
input-blur_of n Clear = refl
input-blur_of n (Leaf d at) = refl
input-blur_of n (Tinted d at tint) = refl
input-blur_of n (Card pixel) = refl
input-blur_of n (Pair op a b) = refl
input-blur_of n (Blur m a) = refl

clear-blur_of : (n : ℕ) (e : Expr) → is_clear (blur_of n e) ≡ is_clear e
clear-blur_of n Clear = refl
clear-blur_of n (Leaf d at) = refl
clear-blur_of n (Tinted d at tint) = refl
clear-blur_of n (Card pixel) = refl
clear-blur_of n (Pair op a b) = refl
clear-blur_of n (Blur m a) = refl

shows-blur : (n : ℕ) (a : Option Stay) (e : Dropped → Point → Expr) → Shows a e → Shows a (λ f o. blur_of n (e f o))
shows-blur n a e shows =
    record {
      clear = λ f o. clear-blur_of n (e f o) ∙ shows.clear f o;
      same = λ f g o q alike. ap (blur_of n) (shows.same f g o q alike);
      tells = λ f g o q is. shows.tells f g o q (sym (input-blur_of n (e f o)) ∙ ap input_of is ∙ input-blur_of n (e g q));
    }

shows-nothing : Shows None (λ f o. Clear)
shows-nothing =
    record { clear = λ f o. refl; same = λ f g o q alike. refl; tells = λ f g o q is. alike-nothing f g o q }

shows-card : (pixel : Channels) (b : Bool) → Shows (cond b None (Some no_drawing)) (λ f o. cond b Clear (Card pixel))
shows-card pixel true = shows-nothing
shows-card pixel false =
    record { clear = λ f o. refl; same = λ f g o q alike. refl; tells = λ f g o q is. alike-nothing f g o q }

-- ---- drawings

abbrev place_in : Expr → Point
place_in (Leaf d at) = at
place_in (Tinted d at tint) = at
place_in e = origin

abbrev tint_in : List Channels → Expr → List Channels
tint_in plain (Leaf d at) = plain
tint_in plain (Tinted d at tint) = tint
tint_in plain e = []

same_pixel_true : (p q : Channels) → same_pixel p q ≡ true → p ≡ q
same_pixel_true p q same = grind arith

same_pixels_true : (ps qs : List Channels) → same_pixels ps qs ≡ true → ps ≡ qs
same_pixels_true [] [] same = refl
same_pixels_true [] (q ∷ qs) same = cc
same_pixels_true (p ∷ ps) [] same = cc
same_pixels_true (p ∷ ps) (q ∷ qs) same =
    let both = and_parts (same_pixel p q) (same_pixels ps qs) same in
    ap₂ (λ x xs. x ∷ xs) (same_pixel_true p q both.0) (same_pixels_true ps qs both.1)

-- a pixel that a style has unless it is dropped
pixel-alike :
    (zeroth h f g : Bool) (pixel : Channels) → (not (is_clear_pixel (cond (zeroth || h) clear pixel)) ≡ true → f ≡ g)
    → cond (zeroth || (h || f)) clear pixel ≡ cond (zeroth || (h || g)) clear pixel
pixel-alike true h f g pixel alike = refl
pixel-alike false true f g pixel alike = refl
pixel-alike false false f g pixel alike = by_pixel (is_clear_pixel pixel) refl
  where
    both_clear : (b : Bool) → pixel ≡ clear → cond b clear pixel ≡ clear
    both_clear true is = refl
    both_clear false is = is

    by_pixel : (b : Bool) → is_clear_pixel pixel ≡ b → cond f clear pixel ≡ cond g clear pixel
    by_pixel true is =
        let same : pixel ≡ clear = same_pixel_true pixel clear is in both_clear f same ∙ sym (both_clear g same)
    by_pixel false is = ap (λ b. cond b clear pixel) (alike (ap not is))

pixel-tells :
    (zeroth h f g : Bool) (pixel : Channels)
    → cond (zeroth || (h || f)) clear pixel ≡ cond (zeroth || (h || g)) clear pixel
    → not (is_clear_pixel (cond (zeroth || h) clear pixel)) ≡ true → f ≡ g
pixel-tells true h f g pixel same shown = absurd (false≢true shown)
pixel-tells false true f g pixel same shown = absurd (false≢true shown)
pixel-tells false false true true pixel same shown = refl
pixel-tells false false true false pixel same shown =
    absurd (false≢true (ap (λ p. not (is_clear_pixel p)) same ∙ shown))
pixel-tells false false false true pixel same shown =
    absurd (false≢true (ap (λ p. not (is_clear_pixel p)) (sym same) ∙ shown))
pixel-tells false false false false pixel same shown = refl

-- a tint gives each style its pixel, and there is one tint for the same pixels
module _
    (pixels : (c : ColoursRecord) (row : ℕ) (f : Dropped) (style : ℕ) → tint_style (tint_at c row f) style ≡ style_at c row f style)
    (one : (c other : ColoursRecord) (row more : ℕ) (f g : Dropped)
    → ((style : ℕ) → style_at c row f style ≡ style_at other more g style) → tint_at c row f ≡ tint_at other more g) where
  style-alike :
      (c : ColoursRecord) (row : ℕ) (h f g : Dropped)
      → ((style : ℕ) → unclear (Some c) row h style ≡ true → f style ≡ g style) → (style : ℕ)
      → style_at c row (λ style. h style || f style) style ≡ style_at c row (λ style. h style || g style) style
  unfolding style_at
  style-alike c row h f g alike style =
      pixel-alike (eqb style 0) (h style) (f style) (g style) (keyed_pixel (key_at c row style) (slice_get c.styles style)) (alike style)

  style-tells :
      (c : ColoursRecord) (row : ℕ) (h f g : Dropped) (style : ℕ)
      → style_at c row (λ style. h style || f style) style ≡ style_at c row (λ style. h style || g style) style
      → unclear (Some c) row h style ≡ true → f style ≡ g style
  unfolding style_at
  style-tells c row h f g style =
      pixel-tells (eqb style 0) (h style) (f style) (g style) (keyed_pixel (key_at c row style) (slice_get c.styles style))

  tint-leaf : (c : ColoursRecord) (d row : ℕ) (f : Dropped) (o : Point)
      → tint_in (tint_by c (as_written c)) (leaf_by (Some c) d row f o) ≡ tint_at c row f
  tint-leaf c d row f o =
      let plain = tint_by c (as_written c) in
      cond_both (same_pixels (tint_at c row f) plain) (Leaf d o) (Tinted d o (tint_at c row f))
      (λ e. tint_in plain e ≡ tint_at c row f)
      (λ passes. sym (same_pixels_true (tint_at c row f) plain passes)) (λ fails. refl)

  place-leaf : (c : ColoursRecord) (d row : ℕ) (f : Dropped) (o : Point) → place_in (leaf_by (Some c) d row f o) ≡ o
  place-leaf c d row f o =
      cond_both (same_pixels (tint_at c row f) (tint_by c (as_written c))) (Leaf d o) (Tinted d o (tint_at c row f))
      (λ e. place_in e ≡ o) (λ passes. refl) (λ fails. refl)

  seen-leaf : (c : ColoursRecord) (d row : ℕ) (f : Dropped) (o : Point) → is_clear (leaf_by (Some c) d row f o) ≡ false
  seen-leaf c d row f o =
      cond_both (same_pixels (tint_at c row f) (tint_by c (as_written c))) (Leaf d o) (Tinted d o (tint_at c row f))
      (λ e. is_clear e ≡ false) (λ passes. refl) (λ fails. refl)

  shows-leaf :
      (c : Option ColoursRecord) (d row : ℕ) (h : Dropped)
      → Shows (Some (record { drawing = true; counts = unclear c row h })) (λ f o. leaf_by c d row (λ style. h style || f style) o)
  shows-leaf None d row h =
      record {
        clear = λ f o. refl;
        same = λ f g o q alike. ap (Leaf d) (alike.offset refl);
        tells = λ f g o q is. record { offset = λ yes. ap place_in is; dropped = λ style yes. absurd (false≢true yes) };
      }
  shows-leaf (Some c) d row h =
      record {
        clear = λ f o. seen-leaf c d row (λ style. h style || f style) o;
        same = λ f g o q alike.
            ap₂ (λ (tint : List Channels) (o : Point). cond (same_pixels tint (tint_by c (as_written c))) (Leaf d o) (Tinted d o tint))
            (one c c row row (λ style. h style || f style) (λ style. h style || g style) (style-alike c row h f g alike.dropped))
            (alike.offset refl);
        tells = λ f g o q is.
            let first : Dropped = λ style. h style || f style in
            let second : Dropped = λ style. h style || g style in
            let tint : tint_at c row first ≡ tint_at c row second =
            sym (tint-leaf c d row first o) ∙ ap (tint_in (tint_by c (as_written c))) is ∙ tint-leaf c d row second q in
            record {
              offset = λ yes. sym (place-leaf c d row first o) ∙ ap place_in is ∙ place-leaf c d row second q;
              dropped = λ style.
                  style-tells c row h f g style
                  (sym (pixels c row first style) ∙ ap (λ t. tint_style t style) tint ∙ pixels c row second style);
            };
      }

  agrees :
      (s : SceneRecord)
      → Agrees (by_above s) (by_stay s) (λ d e a. Shows a e) (λ f g. f ≡ g) (λ style. Unit {0}) (λ q. Unit {0})
  unfolding by_above by_stay
  agrees s =
      record {
        nothing = λ d. shows-nothing;
        drawing = λ d level index row f g same.
            let number = number_of s.levels level index in
            subst (λ (h : Dropped). Shows (Some (record { drawing = true; counts = unclear (colours_of s number) row h }))
            (λ k o. leaf_by (colours_of s number) number row (λ style. f style || k style) o))
            same (shows-leaf (colours_of s number) number row f);
        moved = λ d q e a place shows. shows-moved a e q shows;
        card = λ d style bytes. shows-card (pixel_of style) (is_clear_pixel (pixel_of style));
        pair = λ d op e e' a a' first second. shows-pair op a a' e e' first second;
        blur = λ d n e a shows. shows-blur n a e shows;
        keep = λ styles f g same. ap (keeping styles) same;
        delete = λ styles f g same. ap (deleting styles) same;
      }

  shows-above : (s : SceneRecord) (p : Spot) → Shows (stay_at s p) (answer_at (by_above s) s p none_dropped)
  unfolding answer_at stay_at
  shows-above s p = by_place p.at
    where
      by_place : (at : At)
          → Shows (answer_in (by_stay s) s p.sheet at p.row none_dropped) (answer_in (by_above s) s p.sheet at p.row none_dropped)
      by_place Row =
          whole_row-agrees (by_above s) (by_stay s) (λ d e a. Shows a e) (λ f g. f ≡ g) (λ style. Unit {0}) (λ q. Unit {0})
          (agrees s) s.sheets (λ j. meets-any (sheet_at s.sheets j)) p.sheet p.row none_dropped none_dropped refl
      by_place (Input n) =
          whole_input-agrees (by_above s) (by_stay s) (λ d e a. Shows a e) (λ f g. f ≡ g) (λ style. Unit {0}) (λ q. Unit {0})
          (agrees s) s.sheets (λ j. meets-any (sheet_at s.sheets j)) p.sheet n p.row none_dropped none_dropped refl

  pub shows-at : (s : SceneRecord) (p : Spot) → Shows (stay_at s p) (answer_at (by_offsets s) s p)
  shows-at s p =
      subst (Shows (stay_at s p)) (fun_ext (λ f. fun_ext (λ o. sym (answer-above s p f o)))) (shows-above s p)

-- ---- normal forms

pub alike-normal :
    (a : Stay) (f g : Dropped) (o q : Point) → IsNormal a f o → IsNormal a g q → AreAlike a f o g q → (f ≡ g) × (o ≡ q)
alike-normal a f g o q first second alike = (fun_ext (λ style. by_style style (a.counts style) refl), by_drawing a.drawing refl)
  where
    by_style : (style : ℕ) (b : Bool) → a.counts style ≡ b → f style ≡ g style
    by_style style true is = alike.dropped style is
    by_style style false is = first.dropped style is ∙ sym (second.dropped style is)

    by_drawing : (b : Bool) → a.drawing ≡ b → o ≡ q
    by_drawing true is = alike.offset is
    by_drawing false is = first.offset is ∙ sym (second.offset is)
