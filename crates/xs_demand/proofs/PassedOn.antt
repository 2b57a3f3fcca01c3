-- What passes from an expression to its inputs holds of all that it enters
use Rattle.std.proofs.Common.{◌≡◌, ◌≤◌, ◌+◌, ℕ, Bool, true, false, if◌then◌else◌, List, [], ◌∷◌, ◌++◌, All, length, drop, refl, sym, ap, ◌∙◌, subst, arith}
use Rattle.std.specs.List.{list_any}
use Rattle.std.proofs.lemmas.List.{append-nil, append_assoc, drop_at}
use Rattle.std.proofs.lemmas.List.Elements.{All-nil, All-cons, All-head, All-tail, All-append}
use Rattle.xs_pixel.specs.declared.operation.Op.{Op}
use Rattle.xs_meaning.specs.Expressions.{Expr, Clear, Leaf, Tinted, Card, Pair, Blur, reach_of}
use Rattle.xs_demand.specs.Blocks.{Spread, spread, same_spread, entering, enter, enter_rows}
use Rattle.xs_demand.specs.Fit.{IsFit}

-- inputs have what the expression has
record PassesOn (P : Spread → Type 0) : Type 0 where
  first : (op : Op) (a b : Expr) (g : ℕ) → P (spread (Pair op a b) g) → P (spread a g)
  second : (op : Op) (a b : Expr) (g : ℕ) → P (spread (Pair op a b) g) → P (spread b g)
  inner : (n : ℕ) (a : Expr) (g : ℕ) → P (spread (Blur n a) g) → P (spread a (g + n))

-- a list gained only such spreads
record Gained (P : Spread → Type 0) (held entered : List Spread) : Type 0 where
  new : List Spread
  is : entered ≡ held ++ new
  all : All P new

module _ (P : Spread → Type 0) where
  gained_none : (held : List Spread) → Gained P held held
  gained_none held = record { new = []; is = sym (append-nil held); all = All-nil P }

  gained_more : (held first second : List Spread) → Gained P held first → Gained P first second → Gained P held second
  gained_more held first second before after =
      record {
        new = before.new ++ after.new;
        is = after.is ∙ ap (λ m. m ++ after.new) before.is ∙ append_assoc held before.new after.new;
        all = All-append P before.new after.new before.all after.all;
      }

  gained_one : (x : Spread) (held entered : List Spread) (stands : Bool) → P x → Gained P held entered
      → Gained P held (if stands then held else entered ++ x ∷ [])
  gained_one x held entered true has gained = gained_none held
  gained_one x held entered false has gained =
      gained_more held entered (entered ++ x ∷ []) gained
      (record { new = x ∷ []; is = refl; all = All-cons P x [] has (All-nil P) })

  gained_alone : (x : Spread) (held : List Spread) → P x → Gained P held (entering x held held)
  gained_alone x held has = gained_one x held held (list_any (same_spread x) held) has (gained_none held)

  module _ (passes : PassesOn P) where
    gained : (e : Expr) (g : ℕ) (held : List Spread) → P (spread e g) → Gained P held (enter e g held)
    unfolding enter
    gained Clear g held has = gained_alone (spread Clear g) held has
    gained (Leaf d at) g held has = gained_alone (spread (Leaf d at) g) held has
    gained (Tinted d at tint) g held has = gained_alone (spread (Tinted d at tint) g) held has
    gained (Card pixel) g held has = gained_alone (spread (Card pixel) g) held has
    gained (Pair op a b) g held has =
        gained_one (spread (Pair op a b) g) held (enter b g (enter a g held))
        (list_any (same_spread (spread (Pair op a b) g)) held) has
        (gained_more held (enter a g held) (enter b g (enter a g held))
        (gained a g held (passes.first op a b g has))
        (gained b g (enter a g held) (passes.second op a b g has)))
    gained (Blur n a) g held has =
        gained_one (spread (Blur n a) g) held (enter a (g + n) held)
        (list_any (same_spread (spread (Blur n a) g)) held) has
        (gained a (g + n) held (passes.inner n a g has))

    all_gained : (e : Expr) (g : ℕ) (held : List Spread) → P (spread e g) → All P (drop (length held) (enter e g held))
    all_gained e g held has =
        let new = gained e g held has in
        subst (All P) (sym (ap (drop (length held)) new.is ∙ drop_at held new.new (length held) refl)) new.all

    all_of_rows :
        (roots : List Expr) (held : List Spread) → All (λ e. P (spread e 0)) roots → All P held
        → All P (enter_rows roots held)
    all_of_rows [] held has all = all
    all_of_rows (e ∷ roots) held has all =
        let new = gained e 0 held (All-head (λ a. P (spread a 0)) e roots has) in
        all_of_rows roots (enter e 0 held) (All-tail (λ a. P (spread a 0)) e roots has)
        (subst (All P) (sym new.is) (All-append P held new.new all new.all))

-- ---- fit expressions

abbrev FitSpread : ℕ → Spread → Type 0
FitSpread count x = IsFit count x.expr

fit_passes : (count : ℕ) → PassesOn (FitSpread count)
fit_passes count =
    record {
      first = λ op a b g fit. fit.2;
      second = λ op a b g fit. fit.3;
      inner = λ n a g fit. fit.3;
    }

pub fit_added :
    (count : ℕ) (e : Expr) (g : ℕ) (l : List Spread) → IsFit count e
    → All (λ x. IsFit count x.expr) (drop (length l) (enter e g l))
fit_added count e g l fit = all_gained (FitSpread count) (fit_passes count) e g l fit

pub fit_rows :
    (count : ℕ) (roots : List Expr) → All (IsFit count) roots → All (λ x. IsFit count x.expr) (enter_rows roots [])
fit_rows count roots fit =
    all_of_rows (FitSpread count) (fit_passes count) roots [] fit (All-nil (FitSpread count))

-- ---- growth and reach

abbrev LooksWithin : ℕ → Spread → Type 0
LooksWithin most x = x.growth + reach_of x.expr ≤ most

within_passes : (most : ℕ) → PassesOn (LooksWithin most)
within_passes most =
    record {
      first = λ op a b g within. omega (arith, within);
      second = λ op a b g within. omega (arith, within);
      inner = λ n a g within. omega (arith, within);
    }

pub within_added :
    (e : Expr) (g : ℕ) (l : List Spread)
    → All (λ x. x.growth + reach_of x.expr ≤ g + reach_of e) (drop (length l) (enter e g l))
within_added e g l =
    all_gained (LooksWithin (g + reach_of e)) (within_passes (g + reach_of e)) e g l (omega arith)

pub within_rows :
    (most : ℕ) (roots : List Expr) → All (λ e. reach_of e ≤ most) roots
    → All (λ x. x.growth + reach_of x.expr ≤ most) (enter_rows roots [])
within_rows most roots near =
    all_of_rows (LooksWithin most) (within_passes most) roots []
    (λ i d lt. let less = near i d lt in omega (arith, less)) (All-nil (LooksWithin most))
