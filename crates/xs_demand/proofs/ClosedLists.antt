-- Lists that hold the inputs of all that they hold need no look before the inputs
use Rattle.std.proofs.Common.{◌≡◌, ◌≢◌, ℕ, ◌+◌, ◌<◌, Bool, true, false, ◌||◌, if◌then◌else◌, List, [], ◌∷◌, ◌++◌, All, AllPairs, Contains, length, drop, refl, sym, ap, ap₂, ◌∙◌, subst, inl, inr, arith}
use Rattle.std.specs.List.{list_any}
use Rattle.std.proofs.Math.Bool.{or-false}
use Rattle.std.proofs.lemmas.Bool.{false_from_ne_true, cond-true, both_ways, or_parts, false≢true}
use Rattle.std.proofs.lemmas.List.{get_or_default}
use Rattle.std.proofs.lemmas.List.Elements.{All-nil, All-push, All-head, All-tail, Contains-append_left, Contains-push, Contains-push_cases}
use Rattle.std.proofs.lemmas.List.Folds.{list_any-append}
use Rattle.std.proofs.lemmas.List.Quantifiers.{all_pairs_push}
use Rattle.xs_rect.specs.Area.{Area, grown}
use Rattle.xs_meaning.specs.Expressions.{Expr, Clear, Leaf, Tinted, Card, Pair, Blur}
use Rattle.xs_pixel.specs.declared.operation.Op.{Op}
use Rattle.xs_demand.specs.Aliases.{alias, size_of}
use Rattle.xs_demand.specs.Blocks.{Spread, spread, same_spread, entering, enter, enter_rows, alias_on, inputs_under, IsClosed, put, has_blur}
use Rattle.xs_demand.proofs.SameLemmas.{Decides-same_spread, Decides-same_spread_in}
use Rattle.xs_demand.proofs.PlaceLemmas.{only, none_in_nil, head_or_tail}
use Rattle.xs_demand.proofs.GrownTiles.{not_grown}
use Rattle.xs_demand.proofs.BlockVisits.{entered_new}

-- ---- a greater expression stays out

lighter_differs : (x y : Spread) → size_of y.expr < size_of x.expr → same_spread x y ≡ false
lighter_differs x y lighter =
    false_from_ne_true (same_spread x y)
    (λ same. let sizes : size_of x.expr ≡ size_of y.expr = ap (λ (z : Spread). size_of z.expr) ((Decides-same_spread x y).0 same) in
    absurd (omega arith))

stays_out_by :
    (x y : Spread) (held entered : List Spread) (stands : Bool) → size_of y.expr < size_of x.expr
    → list_any (same_spread x) entered ≡ list_any (same_spread x) held
    → list_any (same_spread x) (if stands then held else entered ++ y ∷ []) ≡ list_any (same_spread x) held
stays_out_by x y held entered true lighter before = refl
stays_out_by x y held entered false lighter before =
    list_any-append (same_spread x) entered (y ∷ [])
    ∙ ap₂ (λ b c. b || (c || false)) before (lighter_differs x y lighter)
    ∙ or-false (list_any (same_spread x) held)

stays_out_one :
    (x y : Spread) (held : List Spread) → size_of y.expr < size_of x.expr
    → list_any (same_spread x) (entering y held held) ≡ list_any (same_spread x) held
stays_out_one x y held lighter = stays_out_by x y held held (list_any (same_spread y) held) lighter refl

stays_out :
    (e : Expr) (g : ℕ) (held : List Spread) (x : Spread) → size_of e < size_of x.expr
    → list_any (same_spread x) (enter e g held) ≡ list_any (same_spread x) held
unfolding enter
stays_out Clear g held x lighter = stays_out_one x (spread Clear g) held lighter
stays_out (Leaf d at) g held x lighter = stays_out_one x (spread (Leaf d at) g) held lighter
stays_out (Tinted d at tint) g held x lighter = stays_out_one x (spread (Tinted d at tint) g) held lighter
stays_out (Card pixel) g held x lighter = stays_out_one x (spread (Card pixel) g) held lighter
stays_out (Pair op a b) g held x lighter =
    stays_out_by x (spread (Pair op a b) g) held (enter b g (enter a g held))
    (list_any (same_spread (spread (Pair op a b) g)) held) lighter
    (stays_out b g (enter a g held) x (omega arith) ∙ stays_out a g held x (omega arith))
stays_out (Blur n a) g held x lighter =
    stays_out_by x (spread (Blur n a) g) held (enter a (g + n) held) (list_any (same_spread (spread (Blur n a) g)) held)
    lighter (stays_out a (g + n) held x (omega arith))

-- the inputs of an expression never enter it
pair_stays_out :
    (op : Op) (a b : Expr) (g : ℕ) (held : List Spread)
    → list_any (same_spread (spread (Pair op a b) g)) (enter b g (enter a g held))
    ≡ list_any (same_spread (spread (Pair op a b) g)) held
pair_stays_out op a b g held =
    stays_out b g (enter a g held) (spread (Pair op a b) g) (omega arith)
    ∙ stays_out a g held (spread (Pair op a b) g) (omega arith)

blur_stays_out :
    (n : ℕ) (a : Expr) (g : ℕ) (held : List Spread)
    → list_any (same_spread (spread (Blur n a) g)) (enter a (g + n) held)
    ≡ list_any (same_spread (spread (Blur n a) g)) held
blur_stays_out n a g held = stays_out a (g + n) held (spread (Blur n a) g) (omega arith)

-- ---- what stands changes nothing

enter_again :
    (e : Expr) (g : ℕ) (held : List Spread) → list_any (same_spread (spread e g)) held ≡ true → enter e g held ≡ held
unfolding enter
enter_again Clear g held there = cond-true (list_any (same_spread (spread Clear g)) held) _ _ there
enter_again (Leaf d at) g held there = cond-true (list_any (same_spread (spread (Leaf d at) g)) held) _ _ there
enter_again (Tinted d at tint) g held there = cond-true (list_any (same_spread (spread (Tinted d at tint) g)) held) _ _ there
enter_again (Card pixel) g held there = cond-true (list_any (same_spread (spread (Card pixel) g)) held) _ _ there
enter_again (Pair op a b) g held there = cond-true (list_any (same_spread (spread (Pair op a b) g)) held) _ _ there
enter_again (Blur n a) g held there = cond-true (list_any (same_spread (spread (Blur n a) g)) held) _ _ there

pub enter_old : (e : Expr) (g : ℕ) (held : List Spread) → Contains held (spread e g) → enter e g held ≡ held
enter_old e g held there = enter_again e g held ((Decides-same_spread_in held (spread e g)).1 there)

pub enter_keeps : (e : Expr) (g : ℕ) (held : List Spread) (x : Spread) → Contains held x → Contains (enter e g held) x
enter_keeps e g held x there =
    subst (λ l. Contains l x) (sym (entered_new e g held))
    (Contains-append_left held (drop (length held) (enter e g held)) x there)

-- ---- closed lists

-- the inputs of an expression stand in a list
abbrev HoldsInputs : Spread → List Spread → Type 0
HoldsInputs x l = (input : Spread) → Contains (inputs_under x.expr x.growth) input → Contains l input

record Closes (x : Spread) (l : List Spread) : Type 0 where
  closed : IsClosed l
  there : Contains l x

closed_push : (held : List Spread) (x : Spread) → IsClosed held → HoldsInputs x held → IsClosed (held ++ x ∷ [])
closed_push held x closed holds y input there of =
    Contains-append_left held (x ∷ []) input
    (elim (Contains-push_cases held x y there) [
      | inl old ↦ closed y input old of
      | inr last ↦ holds input (subst (λ (z : Spread). Contains (inputs_under z.expr z.growth) input) (sym last) of)
    ])

closes_by :
    (x : Spread) (held entered : List Spread) (stands : Bool) → list_any (same_spread x) held ≡ stands → IsClosed held
    → IsClosed entered → HoldsInputs x entered → Closes x (if stands then held else entered ++ x ∷ [])
closes_by x held entered true is before after holds =
    record { closed = before; there = (Decides-same_spread_in held x).0 is }
closes_by x held entered false is before after holds =
    record { closed = closed_push entered x after holds; there = Contains-push entered x }

closes_one : (x : Spread) (held : List Spread) → IsClosed held → HoldsInputs x held → Closes x (entering x held held)
closes_one x held closed holds = closes_by x held held (list_any (same_spread x) held) refl closed closed holds

enter_closes : (e : Expr) (g : ℕ) (held : List Spread) → IsClosed held → Closes (spread e g) (enter e g held)
unfolding enter
enter_closes Clear g held closed = closes_one (spread Clear g) held closed (λ input of. none_in_nil input of)
enter_closes (Leaf d at) g held closed =
    closes_one (spread (Leaf d at) g) held closed (λ input of. none_in_nil input of)
enter_closes (Tinted d at tint) g held closed =
    closes_one (spread (Tinted d at tint) g) held closed (λ input of. none_in_nil input of)
enter_closes (Card pixel) g held closed =
    closes_one (spread (Card pixel) g) held closed (λ input of. none_in_nil input of)
enter_closes (Pair op a b) g held closed =
    let first = enter_closes a g held closed in
    let second = enter_closes b g (enter a g held) first.closed in
    let entered = enter b g (enter a g held) in
    closes_by (spread (Pair op a b) g) held entered (list_any (same_spread (spread (Pair op a b) g)) held) refl
    closed second.closed
    (λ input of. elim (head_or_tail (spread a g) (spread b g ∷ []) input of) [
      | inl is ↦ subst (Contains entered) is (enter_keeps b g (enter a g held) (spread a g) first.there)
      | inr last ↦ subst (Contains entered) (only (spread b g) input last) second.there
    ])
enter_closes (Blur n a) g held closed =
    let inner = enter_closes a (g + n) held closed in
    closes_by (spread (Blur n a) g) held (enter a (g + n) held) (list_any (same_spread (spread (Blur n a) g)) held)
    refl closed inner.closed
    (λ input of. subst (Contains (enter a (g + n) held)) (only (spread a (g + n)) input of) inner.there)

pub enter_closed : (e : Expr) (g : ℕ) (held : List Spread) → IsClosed held → IsClosed (enter e g held)
enter_closed e g held closed = (enter_closes e g held closed).closed

pub enter_enters : (e : Expr) (g : ℕ) (held : List Spread) → IsClosed held → Contains (enter e g held) (spread e g)
enter_enters e g held closed = (enter_closes e g held closed).there

pub nothing_closed : IsClosed []
nothing_closed x input there of = none_in_nil x there

pub rows_closed : (roots : List Expr) (held : List Spread) → IsClosed held → IsClosed (enter_rows roots held)
rows_closed [] held closed = closed
rows_closed (e ∷ roots) held closed = rows_closed roots (enter e 0 held) (enter_closed e 0 held closed)

-- ---- no look before the inputs

put_by :
    (x : Spread) (held entered : List Spread) (stands : Bool) → list_any (same_spread x) held ≡ stands
    → list_any (same_spread x) entered ≡ list_any (same_spread x) held → (stands ≡ true → entered ≡ held)
    → (if stands then held else entered ++ x ∷ []) ≡ put x entered
put_by x held entered true is same old =
    sym (old refl) ∙ sym (cond-true (list_any (same_spread x) entered) entered (entered ++ x ∷ []) (same ∙ is))
put_by x held entered false is same old =
    ap (λ b. if b then entered else entered ++ x ∷ []) (sym (same ∙ is))

pub enter-pair :
    (op : Op) (a b : Expr) (g : ℕ) (held : List Spread) → IsClosed held
    → enter (Pair op a b) g held ≡ put (spread (Pair op a b) g) (enter b g (enter a g held))
unfolding enter
enter-pair op a b g held closed =
    let x = spread (Pair op a b) g in
    put_by x held (enter b g (enter a g held)) (list_any (same_spread x) held) refl (pair_stays_out op a b g held)
    (λ stands.
    let there : Contains held x = (Decides-same_spread_in held x).0 stands in
    let first : Contains held (spread a g) = closed x (spread a g) there (0, omega arith, refl) in
    let second : Contains held (spread b g) = closed x (spread b g) there (1, omega arith, refl) in
    ap (enter b g) (enter_old a g held first) ∙ enter_old b g held second)

pub enter-blur :
    (n : ℕ) (a : Expr) (g : ℕ) (held : List Spread) → IsClosed held
    → enter (Blur n a) g held ≡ put (spread (Blur n a) g) (enter a (g + n) held)
unfolding enter
enter-blur n a g held closed =
    let x = spread (Blur n a) g in
    put_by x held (enter a (g + n) held) (list_any (same_spread x) held) refl (blur_stays_out n a g held)
    (λ stands.
    let there : Contains held x = (Decides-same_spread_in held x).0 stands in
    enter_old a (g + n) held (closed x (spread a (g + n)) there (0, omega arith, refl)))

-- ---- nothing stands twice

abbrev pub AreApart : List Spread → Type 0
AreApart l = AllPairs (λ x y. x ≢ y) l

apart_by :
    (x : Spread) (held entered : List Spread) (stands : Bool) → list_any (same_spread x) held ≡ stands
    → list_any (same_spread x) entered ≡ list_any (same_spread x) held → AreApart held → AreApart entered
    → AreApart (if stands then held else entered ++ x ∷ [])
apart_by x held entered true is same before after = before
apart_by x held entered false is same before after =
    all_pairs_push (λ y z. y ≢ z) entered x after
    (λ k d within equal.
    let there : Contains entered x = (k, within, get_or_default entered k x d within ∙ equal) in
    both_ways (list_any (same_spread x) entered) (same ∙ is) ((Decides-same_spread_in entered x).1 there))

apart_one : (x : Spread) (held : List Spread) → AreApart held → AreApart (entering x held held)
apart_one x held apart = apart_by x held held (list_any (same_spread x) held) refl refl apart apart

enter_apart : (e : Expr) (g : ℕ) (held : List Spread) → AreApart held → AreApart (enter e g held)
unfolding enter
enter_apart Clear g held apart = apart_one (spread Clear g) held apart
enter_apart (Leaf d at) g held apart = apart_one (spread (Leaf d at) g) held apart
enter_apart (Tinted d at tint) g held apart = apart_one (spread (Tinted d at tint) g) held apart
enter_apart (Card pixel) g held apart = apart_one (spread (Card pixel) g) held apart
enter_apart (Pair op a b) g held apart =
    apart_by (spread (Pair op a b) g) held (enter b g (enter a g held))
    (list_any (same_spread (spread (Pair op a b) g)) held) refl (pair_stays_out op a b g held) apart
    (enter_apart b g (enter a g held) (enter_apart a g held apart))
enter_apart (Blur n a) g held apart =
    apart_by (spread (Blur n a) g) held (enter a (g + n) held) (list_any (same_spread (spread (Blur n a) g)) held) refl
    (blur_stays_out n a g held) apart (enter_apart a (g + n) held apart)

rows_apart_behind : (roots : List Expr) (held : List Spread) → AreApart held → AreApart (enter_rows roots held)
rows_apart_behind [] held apart = apart
rows_apart_behind (e ∷ roots) held apart = rows_apart_behind roots (enter e 0 held) (enter_apart e 0 held apart)

pub rows_apart : (roots : List Expr) → AreApart (enter_rows roots [])
rows_apart roots = rows_apart_behind roots [] (λ i j d less within. absurd (omega arith))

-- ---- rows without a blur grow no tile

abbrev AreAt : ℕ → List Spread → Type 0
AreAt g l = All (λ x. x.growth ≡ g) l

ungrown_by :
    (x : Spread) (held entered : List Spread) (stands : Bool) (g : ℕ) → x.growth ≡ g → AreAt g held → AreAt g entered
    → AreAt g (if stands then held else entered ++ x ∷ [])
ungrown_by x held entered true g is before after = before
ungrown_by x held entered false g is before after = All-push (λ (y : Spread). y.growth ≡ g) entered x after is

ungrown : (e : Expr) (g : ℕ) (held : List Spread) → has_blur e ≡ false → AreAt g held → AreAt g (enter e g held)
unfolding enter
ungrown Clear g held none all =
    ungrown_by (spread Clear g) held held (list_any (same_spread (spread Clear g)) held) g refl all all
ungrown (Leaf d at) g held none all =
    ungrown_by (spread (Leaf d at) g) held held (list_any (same_spread (spread (Leaf d at) g)) held) g refl all all
ungrown (Tinted d at tint) g held none all =
    ungrown_by (spread (Tinted d at tint) g) held held (list_any (same_spread (spread (Tinted d at tint) g)) held) g
    refl all all
ungrown (Card pixel) g held none all =
    ungrown_by (spread (Card pixel) g) held held (list_any (same_spread (spread (Card pixel) g)) held) g refl all all
ungrown (Pair op a b) g held none all =
    let parts = or_parts (has_blur a) (has_blur b) none in
    ungrown_by (spread (Pair op a b) g) held (enter b g (enter a g held))
    (list_any (same_spread (spread (Pair op a b) g)) held) g refl all
    (ungrown b g (enter a g held) parts.1 (ungrown a g held parts.0 all))
ungrown (Blur n a) g held none all = absurd (false≢true (sym none))

rows_ungrown_behind :
    (roots : List Expr) (held : List Spread) → All (λ e. has_blur e ≡ false) roots → AreAt 0 held
    → AreAt 0 (enter_rows roots held)
rows_ungrown_behind [] held none all = all
rows_ungrown_behind (e ∷ roots) held none all =
    rows_ungrown_behind roots (enter e 0 held) (All-tail (λ e. has_blur e ≡ false) e roots none)
    (ungrown e 0 held (All-head (λ e. has_blur e ≡ false) e roots none) all)

pub rows_ungrown :
    (roots : List Expr) → All (λ e. has_blur e ≡ false) roots → All (λ x. x.growth ≡ 0) (enter_rows roots [])
rows_ungrown roots none = rows_ungrown_behind roots [] none (All-nil (λ (x : Spread). x.growth ≡ 0))

pub ungrown_alias : (tile : Area) (x : Spread) → x.growth ≡ 0 → alias_on tile x ≡ alias x.expr tile
ungrown_alias tile x none = ap (λ g. alias x.expr (grown tile g)) none ∙ ap (alias x.expr) (not_grown tile)
