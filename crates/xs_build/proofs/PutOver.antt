-- One step of putting expressions over a lowest one
use Rattle.std.proofs.Common.{◌≡◌, ℕ, Some, List, [], ◌∷◌, ◌++◌, All, map, slice_get, sym, ap, ap₂, ◌∙◌, subst}
use Rattle.std.proofs.lemmas.List.{map-append}
use Rattle.std.proofs.lemmas.List.Elements.{All-nil, All-cons, All-head, All-tail}
use Rattle.xs_meaning.specs.Expressions.{Expr, Pair}
use Rattle.xs_pixel.specs.declared.operation.Op.TheVariants.{Over}
use Rattle.xs_demand.specs.Blocks.{Spread, spread, put}
use Rattle.xs_build.specs.Stacks.{laid_over, put_over}
use Rattle.xs_build.specs.States.{expr_at, IsAt}
use Rattle.xs_build.proofs.Growing.{Extends, extends-put, exprs-extend, expr-is}
use Rattle.xs_build.proofs.StackLemmas.{laid_over-push, put_over-push}

pub All-front : {A : Type 0} (P : A → Type 0) (xs ys : List A) → All P (xs ++ ys) → All P xs
All-front P [] ys all = All-nil P
All-front P (x ∷ xs) ys all =
    All-cons P x xs (All-head P x (xs ++ ys) all) (All-front P xs ys (All-tail P x (xs ++ ys) all))

pub All-last : {A : Type 0} (P : A → Type 0) (xs : List A) (y : A) → All P (xs ++ y ∷ []) → P y
All-last P [] y all = All-head P y [] all
All-last P (x ∷ xs) y all = All-last P xs y (All-tail P x (xs ++ y ∷ []) all)

module _ (l m : List Spread) (g over was whole : ℕ) (upper rest : List ℕ) (popped : upper ≡ rest ++ over ∷ [])
    (all : All (IsAt l g) upper)
    (is : m ≡ put (spread (Pair Over (expr_at l over) (expr_at l was)) g) l)
    (at : slice_get m whole ≡ Some (spread (Pair Over (expr_at l over) (expr_at l was)) g)) where
  abbrev joined : Expr
  joined = Pair Over (expr_at l over) (expr_at l was)

  pub more : Extends l m
  more = subst (Extends l) (sym is) (extends-put (spread joined g) l)

  pub rest_at : All (IsAt l g) rest
  rest_at = All-front (IsAt l g) rest (over ∷ []) (subst (All (IsAt l g)) popped all)

  exprs : map (expr_at l) upper ≡ map (expr_at m) rest ++ expr_at l over ∷ []
  exprs =
      ap (map (expr_at l)) popped
      ∙ map-append (expr_at l) rest (over ∷ [])
      ∙ ap (λ (es : List Expr). es ++ expr_at l over ∷ []) (sym (exprs-extend l m g rest more rest_at))

  pub step-expr : laid_over (map (expr_at l) upper) (expr_at l was) ≡ laid_over (map (expr_at m) rest) (expr_at m whole)
  step-expr =
      ap (λ (es : List Expr). laid_over es (expr_at l was)) exprs
      ∙ laid_over-push (map (expr_at m) rest) (expr_at l over) (expr_at l was)
      ∙ ap (laid_over (map (expr_at m) rest)) (sym (expr-is m whole joined g at))

  pub step-puts :
      put_over (map (expr_at l) upper) (expr_at l was) g l ≡ put_over (map (expr_at m) rest) (expr_at m whole) g m
  step-puts =
      ap (λ (es : List Expr). put_over es (expr_at l was) g l) exprs
      ∙ put_over-push (map (expr_at m) rest) (expr_at l over) (expr_at l was) g l
      ∙ ap₂ (λ (e : Expr) (xs : List Spread). put_over (map (expr_at m) rest) e g xs) (sym (expr-is m whole joined g at)) (sym is)
