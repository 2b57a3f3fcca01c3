-- What was entered stays where it is when more is entered
use Rattle.std.proofs.Common.{◌≡◌, ◌≤◌, ◌+◌, ℕ, zero, suc, Bool, true, false, cond, Some, List, [], ◌∷◌, ◌++◌, All, length, drop, map, slice_get, slice_index_or, refl, sym, ap, ap₂, ◌∙◌, length-append, append_assoc, append-nil, arith}
use Rattle.std.specs.List.{list_any}
use Rattle.std.proofs.lemmas.List.Elements.{All-nil, All-cons, All-head, All-tail}
use Rattle.xs_meaning.specs.Expressions.{Expr, Clear, Pair}
use Rattle.xs_pixel.specs.declared.operation.Op.TheVariants.{Over}
use Rattle.xs_demand.specs.Blocks.{Spread, spread, same_spread, enter, put}
use Rattle.xs_demand.proofs.BlockVisits.{entered_new}
use Rattle.xs_build.specs.Stacks.{laid_over, enter_each, put_over}
use Rattle.xs_build.specs.States.{expr_at, IsAt}

abbrev pub Extends : List Spread → List Spread → Type 0
Extends l new = (added : List Spread) × (new ≡ l ++ added)

pub extends-same : (l : List Spread) → Extends l l
extends-same l = ([], sym (append-nil l))

pub extends-then : (l m n : List Spread) → Extends l m → Extends m n → Extends l n
extends-then l m n first second =
    (first.0 ++ second.0, second.1 ∙ ap (λ xs. xs ++ second.0) first.1 ∙ append_assoc l first.0 second.0)

put-by : (x : Spread) (l : List Spread) (b : Bool) → Extends l (cond b l (l ++ x ∷ []))
put-by x l true = extends-same l
put-by x l false = (x ∷ [], refl)

pub extends-put : (x : Spread) (l : List Spread) → Extends l (put x l)
extends-put x l = put-by x l (list_any (same_spread x) l)

pub extends-enter : (e : Expr) (g : ℕ) (l : List Spread) → Extends l (enter e g l)
extends-enter e g l = (drop (length l) (enter e g l), entered_new e g l)

pub extends-enter_each : (es : List Expr) (g : ℕ) (l : List Spread) → Extends l (enter_each es g l)
extends-enter_each [] g l = extends-same l
extends-enter_each (e ∷ es) g l =
    extends-then l (enter e g l) (enter_each es g (enter e g l)) (extends-enter e g l) (extends-enter_each es g (enter e g l))

pub extends-put_over : (es : List Expr) (lowest : Expr) (g : ℕ) (l : List Spread) → Extends l (put_over es lowest g l)
extends-put_over [] lowest g l = extends-same l
extends-put_over (e ∷ es) lowest g l =
    extends-then l (put_over es lowest g l) (put_over (e ∷ es) lowest g l) (extends-put_over es lowest g l)
    (extends-put (spread (Pair Over e (laid_over es lowest)) g) (put_over es lowest g l))

pub longer : (l new : List Spread) → Extends l new → length l ≤ length new
longer l new more = omega (arith, ap length more.1, length-append l more.0)

put-longer_by : (x : Spread) (l : List Spread) (b : Bool) → length (cond b l (l ++ x ∷ [])) ≤ length l + 1
put-longer_by x l true = omega arith
put-longer_by x l false = omega (arith, length-append l (x ∷ []))

pub put-longer : (x : Spread) (l : List Spread) → length (put x l) ≤ length l + 1
put-longer x l = put-longer_by x l (list_any (same_spread x) l)

get-append : (l added : List Spread) (n : ℕ) (x : Spread) → slice_get l n ≡ Some x → slice_get (l ++ added) n ≡ Some x
get-append [] added n x is = cc
get-append (y ∷ l) added zero x is = is
get-append (y ∷ l) added (suc n) x is = get-append l added n x is

pub get-extends : (l new : List Spread) (n : ℕ) (x : Spread) → Extends l new → slice_get l n ≡ Some x → slice_get new n ≡ Some x
get-extends l new n x more is = ap (λ xs. slice_get xs n) more.1 ∙ get-append l more.0 n x is

get-spread : (l : List Spread) (n : ℕ) (x d : Spread) → slice_get l n ≡ Some x → slice_index_or l n d ≡ x
get-spread [] n x d is = cc
get-spread (y ∷ l) zero x d is = cc
get-spread (y ∷ l) (suc n) x d is = get-spread l n x d is

pub expr-is : (l : List Spread) (n : ℕ) (e : Expr) (g : ℕ) → slice_get l n ≡ Some (spread e g) → expr_at l n ≡ e
expr-is l n e g is = ap (λ (x : Spread). x.expr) (get-spread l n (spread e g) (spread Clear 0) is)

pub is-at : (l : List Spread) (n : ℕ) (e : Expr) (g : ℕ) → slice_get l n ≡ Some (spread e g) → IsAt l g n
is-at l n e g is = is ∙ ap (λ (e : Expr). Some (spread e g)) (sym (expr-is l n e g is))

pub expr-extends : (l new : List Spread) (g n : ℕ) → Extends l new → IsAt l g n → expr_at new n ≡ expr_at l n
expr-extends l new g n more at = expr-is new n (expr_at l n) g (get-extends l new n (spread (expr_at l n) g) more at)

pub at-extends : (l new : List Spread) (g n : ℕ) → Extends l new → IsAt l g n → IsAt new g n
at-extends l new g n more at = is-at new n (expr_at l n) g (get-extends l new n (spread (expr_at l n) g) more at)

pub all_at-extends : (l new : List Spread) (g : ℕ) (ns : List ℕ) → Extends l new → All (IsAt l g) ns → All (IsAt new g) ns
all_at-extends l new g [] more all = All-nil (IsAt new g)
all_at-extends l new g (n ∷ ns) more all =
    All-cons (IsAt new g) n ns (at-extends l new g n more (All-head (IsAt l g) n ns all))
    (all_at-extends l new g ns more (All-tail (IsAt l g) n ns all))

pub exprs-extend :
    (l new : List Spread) (g : ℕ) (ns : List ℕ) → Extends l new → All (IsAt l g) ns → map (expr_at new) ns ≡ map (expr_at l) ns
exprs-extend l new g [] more all = refl
exprs-extend l new g (n ∷ ns) more all =
    ap₂ (λ (x : Expr) (xs : List Expr). x ∷ xs) (expr-extends l new g n more (All-head (IsAt l g) n ns all))
    (exprs-extend l new g ns more (All-tail (IsAt l g) n ns all))
