-- What is given where a blur, a pair or a stack is put last
use Rattle.std.proofs.Common.{◌≡◌, ◌≤◌, ◌+◌, ℕ, true, false, Option, Some, None, Result, Ok, Err, List, [], ◌∷◌, ◌++◌, All, length, slice_get, refl, sym, ap, ap₂, ◌∙◌, subst, append-nil, append_assoc, arith}
use Rattle.std.proofs.lemmas.Bool.{cond_both}
use Rattle.xs_pixel.specs.Points.{Point}
use Rattle.xs_pixel.specs.declared.operation.Op.{Op}
use Rattle.xs_scene.specs.Records.{ColoursRecord}
use Rattle.xs_meaning.specs.Expressions.{Expr, Clear, Leaf, Tinted, Card, Pair, Blur, is_clear, leaf_by}
use Rattle.xs_meaning.specs.Palettes.{Dropped, is_as_written, tint_at}
use Rattle.xs_demand.specs.Blocks.{Spread, spread, enter, put, Puts, IsClosed}
use Rattle.xs_demand.specs.Renamed.{renamed}
use Rattle.xs_demand.proofs.ClosedLists.{enter-pair, enter-blur}
use Rattle.xs_build.specs.declared.build.Build.{Build}
use Rattle.xs_build.specs.declared.scope.Scope.{Scope}
use Rattle.xs_build.specs.declared.stop.Stop.{Stop}
use Rattle.xs_build.specs.Stacks.{stacked, seen_down, enter_each, put_over}
use Rattle.xs_build.specs.States.{expr_at, Grows, Gives, GivesPut, LaysOver}
use Rattle.xs_stays.specs.Found.{KeepsSets}
use Rattle.xs_build.proofs.Giving.{gives-final, grows-then, sound-more}
use Rattle.xs_build.proofs.Growing.{Extends, extends-put, extends-enter, extends-put_over, longer, get-extends, expr-is}
use Rattle.xs_build.proofs.StackLemmas.{enter-stacked, stacked-laid_over}

-- ---- drawings

pub enter-leaf :
    (names : ℕ → ℕ) (c : Option ColoursRecord) (d row : ℕ) (f : Dropped) (o : Point) (g : ℕ) (l : List Spread)
    → put (spread (renamed names (leaf_by c d row f o)) g) l ≡ enter (renamed names (leaf_by c d row f o)) g l
unfolding enter
enter-leaf names None d row f o g l = refl
enter-leaf names (Some c) d row f o g l =
    cond_both (is_as_written c row f) (Leaf d o) (Tinted d o (tint_at c row f))
    (λ (e : Expr). put (spread (renamed names e) g) l ≡ enter (renamed names e) g l)
    (λ passes. refl) (λ fails. refl)

pub gives-puts :
    (most : ℕ) (old new : List Spread) (x y : Spread) (n : ℕ) → length old ≤ most → x ≡ y → Puts old new x n
    → GivesPut most old new y (Ok n)
gives-puts most old new x y n few same puts =
    subst (λ (z : Spread). GivesPut most old new z (Ok n)) same
    (record { put = (puts.now, puts.at); few = few; full = λ is. let none : ⊥ = cc in absurd none })

-- ---- blurs and pairs

pub blur-longer :
    (n : ℕ) (a : Expr) (g : ℕ) (l : List Spread) → IsClosed l → length (enter a (g + n) l) ≤ length (enter (Blur n a) g l)
blur-longer n a g l closed =
    omega (
      arith,
      longer (enter a (g + n) l) (put (spread (Blur n a) g) (enter a (g + n) l)) (extends-put (spread (Blur n a) g) (enter a (g + n) l)),
      ap length (enter-blur n a g l closed),
    )

pub gives-blur :
    (at : Scope) (old mid : Build) (l : List Spread) (n : ℕ) (a : Expr) (g input : ℕ) (r : Result ℕ Stop) → IsClosed old.entered
    → Gives at old mid a (g + n) (Ok input)
    → GivesPut at.most mid.entered l (spread (Blur n (expr_at mid.entered input)) g) r
    → Gives at old (record mid { entered = l }) (Blur n a) g r
gives-blur at old mid l n a g input r closed given puts =
    let x : spread (Blur n (expr_at mid.entered input)) g ≡ spread (Blur n a) g =
    ap (λ (e : Expr). spread (Blur n e) g) (expr-is mid.entered input a (g + n) given.entered.at) in
    gives-final at old mid l (spread (Blur n (expr_at mid.entered input)) g) (Blur n a) g r given.grows x
    (ap₂ put x given.entered.now ∙ sym (enter-blur n a g old.entered closed)) puts

pub pair-longer :
    (op : Op) (a b : Expr) (g : ℕ) (l : List Spread) → IsClosed l
    → length (enter b g (enter a g l)) ≤ length (enter (Pair op a b) g l)
pair-longer op a b g l closed =
    let m = enter b g (enter a g l) in
    omega (arith, longer m (put (spread (Pair op a b) g) m) (extends-put (spread (Pair op a b) g) m), ap length (enter-pair op a b g l closed))

pub pair-longer_first :
    (op : Op) (a b : Expr) (g : ℕ) (l : List Spread) → IsClosed l
    → length (enter a g l) ≤ length (enter (Pair op a b) g l)
pair-longer_first op a b g l closed =
    omega (arith, pair-longer op a b g l closed, longer (enter a g l) (enter b g (enter a g l)) (extends-enter b g (enter a g l)))

pub upper-kept :
    (at : Scope) (mid low : Build) (a b : Expr) (g upper lower : ℕ) → slice_get mid.entered upper ≡ Some (spread a g)
    → Gives at mid low b g (Ok lower) → slice_get low.entered upper ≡ Some (spread a g)
upper-kept at mid low a b g upper lower has given =
    get-extends mid.entered low.entered upper (spread a g)
    (subst (Extends mid.entered) (sym given.entered.now) (extends-enter b g mid.entered)) has

pub gives-pair :
    (at : Scope) (old mid low : Build) (l : List Spread) (op : Op) (a b : Expr) (g upper lower : ℕ) (r : Result ℕ Stop)
    → IsClosed old.entered → Gives at old mid a g (Ok upper) → Gives at mid low b g (Ok lower)
    → GivesPut at.most low.entered l (spread (Pair op (expr_at low.entered upper) (expr_at low.entered lower)) g) r
    → Gives at old (record low { entered = l }) (Pair op a b) g r
gives-pair at old mid low l op a b g upper lower r closed first second puts =
    let x : spread (Pair op (expr_at low.entered upper) (expr_at low.entered lower)) g ≡ spread (Pair op a b) g =
    ap₂ (λ (d e : Expr). spread (Pair op d e) g)
    (expr-is low.entered upper a g (upper-kept at mid low a b g upper lower first.entered.at second))
    (expr-is low.entered lower b g second.entered.at) in
    gives-final at old low l (spread (Pair op (expr_at low.entered upper) (expr_at low.entered lower)) g) (Pair op a b) g r
    (grows-then at.scene.now at.names.now at.most old mid low first.grows second.grows) x
    (ap₂ put x (second.entered.now ∙ ap (enter b g) first.entered.now) ∙ sym (enter-pair op a b g old.entered closed)) puts

-- ---- stacks

pub seen_down-push : (es : List Expr) (e : Expr) → seen_down (es ++ e ∷ []) ≡ seen_down (e ∷ []) ++ seen_down es
seen_down-push [] e = sym (append-nil (seen_down (e ∷ [])))
seen_down-push (x ∷ es) e =
    ap (λ (xs : List Expr). xs ++ seen_down (x ∷ [])) (seen_down-push es e)
    ∙ append_assoc (seen_down (e ∷ [])) (seen_down es) (seen_down (x ∷ []))

pub enter_each-append :
    (xs ys : List Expr) (g : ℕ) (l : List Spread) → enter_each (xs ++ ys) g l ≡ enter_each ys g (enter_each xs g l)
enter_each-append [] ys g l = refl
enter_each-append (x ∷ xs) ys g l = enter_each-append xs ys g (enter x g l)

pub seen-is_one : (e : Expr) → is_clear e ≡ false → seen_down (e ∷ []) ≡ e ∷ []
seen-is_one Clear seen = cc
seen-is_one (Leaf d at) seen = refl
seen-is_one (Tinted d at tint) seen = refl
seen-is_one (Card pixel) seen = refl
seen-is_one (Pair op a b) seen = refl
seen-is_one (Blur n a) seen = refl

abbrev IsSeen : Expr → Type 0
IsSeen e = is_clear e ≡ false

pub gives-over :
    (at : Scope) (old mid : Build) (l : List Spread) (es : List Expr) (lowest : Expr) (g : ℕ) (r : Result ℕ Stop)
    → IsClosed old.entered → All IsSeen (es ++ lowest ∷ []) → Grows at.scene.now at.names.now at.most old mid
    → mid.entered ≡ enter_each (es ++ lowest ∷ []) g old.entered → LaysOver at.most mid.entered l es lowest g r
    → Gives at old (record mid { entered = l }) (stacked (es ++ lowest ∷ [])) g r
gives-over at old mid l es lowest g (Ok n) closed seen grows is lays =
    record {
      entered =
          record {
            now = lays.put.0 ∙ ap (put_over es lowest g) is ∙ sym (enter-stacked es lowest g old.entered closed seen);
            at = lays.put.1 ∙ ap (λ (e : Expr). Some (spread e g)) (sym (stacked-laid_over es lowest seen));
          };
      grows =
          record {
            sound =
                sound-more at.scene.now at.names.now mid l
                (subst (Extends mid.entered) (sym lays.put.0) (extends-put_over es lowest g mid.entered)) grows.sound;
            sets = grows.sets;
            few = omega (arith, lays.few, grows.few);
          };
      full = λ is. let none : ⊥ = cc in absurd none;
    }
gives-over at old mid l es lowest g (Err y) closed seen grows is lays =
    record {
      entered = tt;
      grows = tt;
      full = λ failed.
          omega (
            arith,
            lays.full failed,
            ap length (ap (put_over es lowest g) is ∙ sym (enter-stacked es lowest g old.entered closed seen)),
          );
    }

last_of : (x : Expr) (xs : List Expr) → (ys : List Expr) × (y : Expr) × (x ∷ xs ≡ ys ++ y ∷ [])
last_of x [] = ([], x, refl)
last_of x (z ∷ xs) =
    let rest = last_of z xs in
    (x ∷ rest.0, rest.1, ap (λ (es : List Expr). x ∷ es) rest.2)

each-longer_by :
    (ys : List Expr) (y : Expr) (g : ℕ) (l : List Spread) → IsClosed l → All IsSeen (ys ++ y ∷ [])
    → length (enter_each (ys ++ y ∷ []) g l) ≤ length (enter (stacked (ys ++ y ∷ [])) g l)
each-longer_by ys y g l closed seen =
    let each = enter_each (ys ++ y ∷ []) g l in
    omega (arith, longer each (put_over ys y g each) (extends-put_over ys y g each), ap length (enter-stacked ys y g l closed seen))

-- each is entered on the way
pub each-longer :
    (es : List Expr) (g : ℕ) (l : List Spread) → IsClosed l → All IsSeen es
    → length (enter_each es g l) ≤ length (enter (stacked es) g l)
each-longer [] g l closed seen = longer l (enter Clear g l) (extends-enter Clear g l)
each-longer (e ∷ es) g l closed seen =
    let by = last_of e es in
    subst (λ (xs : List Expr). length (enter_each xs g l) ≤ length (enter (stacked xs) g l)) (sym by.2)
    (each-longer_by by.0 by.1 g l closed (subst (All IsSeen) by.2 seen))

-- ---- what may be clear

pub clear-is : (e : Expr) → is_clear e ≡ true → e ≡ Clear
clear-is Clear is = refl
clear-is (Leaf d at) is = cc
clear-is (Tinted d at tint) is = cc
clear-is (Card pixel) is = cc
clear-is (Pair op a b) is = cc
clear-is (Blur n a) is = cc

pub enter-clear : (g : ℕ) (l : List Spread) → put (spread Clear g) l ≡ enter Clear g l
unfolding enter
enter-clear g l = refl

pub gives-from :
    (at : Scope) (old mid new : Build) (e : Expr) (g : ℕ) (r : Result ℕ Stop) → mid.entered ≡ old.entered → mid.sets ≡ old.sets
    → Gives at mid new e g r → Gives at old new e g r
gives-from at old mid new e g (Ok n) entered sets given =
    record {
      entered = record { now = given.entered.now ∙ ap (enter e g) entered; at = given.entered.at };
      grows =
          record {
            sound = given.grows.sound;
            sets = subst (λ sets. KeepsSets sets.keys new.sets.keys) sets given.grows.sets;
            few = omega (arith, given.grows.few, ap length entered);
          };
      full = λ is. let none : ⊥ = cc in absurd none;
    }
gives-from at old mid new e g (Err y) entered sets given =
    record {
      entered = tt;
      grows = tt;
      full = λ is. omega (arith, given.full is, ap (λ (l : List Spread). length (enter e g l)) entered);
    }
