-- Where the aliases of a block stand, and how many there are
use Rattle.std.proofs.Common.{◌≡◌, ℕ, zero, suc, ◌+◌, ◌-◌, ◌*◌, ◌<◌, ◌≤◌, Bool, true, false, if◌then◌else◌, List, [], ◌∷◌, ◌++◌, Some, length, map, take, slice_get, refl, sym, ap, ap₂, ◌∙◌, subst, arith}
use Rattle.std.specs.Option.{option_map}
use Rattle.std.specs.Prelude.{nat_lt}
use Rattle.std.proofs.Math.Nat.{suc-mul, mul-add}
use Rattle.std.proofs.lemmas.Bool.{ltb-true, ltb-false, lt-ltb, le-ltb, cond-true, cond-false}
use Rattle.std.proofs.lemmas.List.{append-nil, append_assoc, length-append, length-map, length-take}
use Rattle.std.proofs.lemmas.List.Sums.{sum_by-append, sum_by-cons}
use Rattle.std.proofs.lemmas.Option.{slice_get-map, slice_get_within}
use Rattle.xs_rect.specs.Area.{Area, grown}
use Rattle.xs_meaning.specs.Expressions.{Expr, Clear, Leaf, Tinted, Card, Pair, Blur}
use Rattle.xs_demand.specs.Aliases.{Alias, inputs_of, inputs_on, inputs_in, visit_tiles, visit_rows, aliases_of}
use Rattle.xs_demand.specs.Limits.{root_in, aliases_through}
use Rattle.xs_demand.specs.Blocks.{Spread, enter, enter_rows, new_of, alias_on, block, blocks, number_on, inputs_under, inputs_entered, GrowApart}
use Rattle.xs_demand.specs.Shown.{ends_of}
use Rattle.xs_demand.proofs.PlaceLemmas.{place-append, place-behind}
use Rattle.xs_demand.proofs.GrownTiles.{grown_twice}
use Rattle.xs_demand.proofs.BlockVisits.{entered_new}
use Rattle.xs_demand.proofs.BlockRows.{EachHas, each_has_more, visit_tiles-block, visit_rows-blocks, rows_held, none_held, aliases_of-blocks}

-- ---- places in lists that are joined

front_of :
    {A : Type 0} (xs ys : List A) (n : ℕ) (x : A) → n < length xs → slice_get (xs ++ ys) n ≡ Some x
    → slice_get xs n ≡ Some x
front_of [] ys n x within at = absurd (omega arith)
front_of (y ∷ xs) ys zero x within at = at
front_of (y ∷ xs) ys (suc n) x within at = front_of xs ys n x (omega arith) at

rest_of :
    {A : Type 0} (xs ys : List A) (n : ℕ) (x : A) → length xs ≤ n → slice_get (xs ++ ys) n ≡ Some x
    → slice_get ys (n - length xs) ≡ Some x
rest_of xs ys n x behind at =
    let place : length xs + (n - length xs) ≡ n = omega arith in
    sym (place-behind xs ys (n - length xs)) ∙ ap (slice_get (xs ++ ys)) place ∙ at

get_taken :
    {A : Type 0} (m : ℕ) (xs : List A) (n : ℕ) (x : A) → slice_get (take m xs) n ≡ Some x → slice_get xs n ≡ Some x
get_taken zero xs n x at = cc
get_taken (suc m) [] n x at = cc
get_taken (suc m) (y ∷ xs) zero x at = at
get_taken (suc m) (y ∷ xs) (suc n) x at = get_taken m xs n x at

-- ---- how many aliases there are

length-block : (tiles : List Area) (new : List Spread) → length (block tiles new) ≡ length tiles * length new
length-block [] new = omega arith
length-block (tile ∷ tiles) new =
    length-append (map (alias_on tile) new) (block tiles new)
    ∙ omega (arith, length-map new (alias_on tile), length-block tiles new, suc-mul (length tiles) (length new))

length-entered : (e : Expr) (held : List Spread) → length (enter e 0 held) ≡ length held + length (new_of e held)
length-entered e held = ap length (entered_new e 0 held) ∙ length-append held (new_of e held)

length-blocks :
    (tiles : List Area) (roots : List Expr) (held : List Spread)
    → length (blocks tiles roots held) + length tiles * length held ≡ length tiles * length (enter_rows roots held)
length-blocks tiles [] held = omega arith
length-blocks tiles (e ∷ roots) held =
    let n = length tiles in
    let here : length (block tiles (new_of e held)) ≡ n * length (new_of e held) = length-block tiles (new_of e held) in
    let rest : length (blocks tiles roots (enter e 0 held)) + n * length (enter e 0 held) ≡ n * length (enter_rows roots (enter e 0 held)) =
    length-blocks tiles roots (enter e 0 held) in
    let more : n * length (enter e 0 held) ≡ n * length held + n * length (new_of e held) =
    ap (λ m. n * m) (length-entered e held) ∙ mul-add n (length held) (length (new_of e held)) in
    let both : length (block tiles (new_of e held) ++ blocks tiles roots (enter e 0 held))
    ≡ length (block tiles (new_of e held)) + length (blocks tiles roots (enter e 0 held)) =
    length-append (block tiles (new_of e held)) (blocks tiles roots (enter e 0 held)) in
    omega arith

-- ---- how many inputs they have

pub inputs_on_tile :
    (tile : Area) (x : Spread) → inputs_of (alias_on tile x) ≡ map (alias_on tile) (inputs_under x.expr x.growth)
inputs_on_tile tile x = inputs_at x.expr x.growth where
  inputs_at :
      (e : Expr) (g : ℕ) → inputs_on e (grown tile g) ≡ map (alias_on tile) (inputs_under e g)
  inputs_at Clear g = refl
  inputs_at (Leaf d at) g = refl
  inputs_at (Tinted d at tint) g = refl
  inputs_at (Card pixel) g = refl
  inputs_at (Pair op a b) g = refl
  inputs_at (Blur n a) g = ap (λ r. record { expr = a; rect = r } ∷ []) (grown_twice tile g n)

inputs_in-tile : (tile : Area) (new : List Spread) → inputs_in (map (alias_on tile) new) ≡ inputs_entered new
inputs_in-tile tile [] = refl
inputs_in-tile tile (x ∷ new) =
    sum_by-cons (λ y. length (inputs_of y)) (alias_on tile x) (map (alias_on tile) new)
    ∙ ap₂ (λ m n. m + n)
    (ap length (inputs_on_tile tile x) ∙ length-map (inputs_under x.expr x.growth) (alias_on tile))
    (inputs_in-tile tile new)
    ∙ sym (sum_by-cons (λ y. length (inputs_under y.expr y.growth)) x new)

inputs_in-append : (l more : List Alias) → inputs_in (l ++ more) ≡ inputs_in l + inputs_in more
inputs_in-append l more = sum_by-append (λ y. length (inputs_of y)) l more

inputs_in-block : (tiles : List Area) (new : List Spread) → inputs_in (block tiles new) ≡ length tiles * inputs_entered new
inputs_in-block [] new = omega arith
inputs_in-block (tile ∷ tiles) new =
    inputs_in-append (map (alias_on tile) new) (block tiles new)
    ∙ omega (arith, inputs_in-tile tile new, inputs_in-block tiles new, suc-mul (length tiles) (inputs_entered new))

inputs_entered-entered :
    (e : Expr) (held : List Spread) → inputs_entered (enter e 0 held) ≡ inputs_entered held + inputs_entered (new_of e held)
inputs_entered-entered e held =
    ap inputs_entered (entered_new e 0 held)
    ∙ sum_by-append (λ y. length (inputs_under y.expr y.growth)) held (new_of e held)

inputs_in-blocks :
    (tiles : List Area) (roots : List Expr) (held : List Spread)
    → inputs_in (blocks tiles roots held) + length tiles * inputs_entered held
    ≡ length tiles * inputs_entered (enter_rows roots held)
inputs_in-blocks tiles [] held = omega arith
inputs_in-blocks tiles (e ∷ roots) held =
    let n = length tiles in
    let here : inputs_in (block tiles (new_of e held)) ≡ n * inputs_entered (new_of e held) = inputs_in-block tiles (new_of e held) in
    let rest : inputs_in (blocks tiles roots (enter e 0 held)) + n * inputs_entered (enter e 0 held)
    ≡ n * inputs_entered (enter_rows roots (enter e 0 held)) = inputs_in-blocks tiles roots (enter e 0 held) in
    let more : n * inputs_entered (enter e 0 held) ≡ n * inputs_entered held + n * inputs_entered (new_of e held) =
    ap (λ m. n * m) (inputs_entered-entered e held) ∙ mul-add n (inputs_entered held) (inputs_entered (new_of e held)) in
    let both : inputs_in (block tiles (new_of e held) ++ blocks tiles roots (enter e 0 held))
    ≡ inputs_in (block tiles (new_of e held)) + inputs_in (blocks tiles roots (enter e 0 held)) =
    inputs_in-append (block tiles (new_of e held)) (blocks tiles roots (enter e 0 held)) in
    omega arith

-- ---- the list after a row and tile

pub through-blocks :
    (tiles : List Area) (roots : List Expr) (row tile : ℕ) → GrowApart tiles
    → aliases_through tiles roots row tile
    ≡ blocks tiles (take row roots) []
    ++ block (take (tile + 1) tiles) (new_of (root_in roots row) (enter_rows (take row roots) []))
unfolding aliases_through
through-blocks tiles roots row tile apart =
    let front = take (tile + 1) tiles in
    let held = enter_rows (take row roots) [] in
    let before : visit_rows tiles (take row roots) [] ≡ blocks tiles (take row roots) [] =
    visit_rows-blocks tiles (take row roots) [] [] apart (none_held tiles) in
    let has : EachHas tiles held (blocks tiles (take row roots) []) =
    rows_held tiles (take row roots) [] [] apart (none_held tiles) in
    let apart_front : GrowApart front =
    λ j k a b g m at_j at_k. apart j k a b g m (get_taken (tile + 1) tiles j a at_j) (get_taken (tile + 1) tiles k b at_k) in
    ap (visit_tiles (root_in roots row) front) before
    ∙ visit_tiles-block (root_in roots row) held front (blocks tiles (take row roots) []) apart_front
    (λ j a at. has j a (get_taken (tile + 1) tiles j a at))

taken : (tiles : List Area) (tile : ℕ) → tile < length tiles → length (take (tile + 1) tiles) ≡ tile + 1
taken tiles tile within = omega (arith, length-take (tile + 1) tiles)

pub length-through :
    (tiles : List Area) (roots : List Expr) (row tile : ℕ) → GrowApart tiles → tile < length tiles
    → length (aliases_through tiles roots row tile)
    ≡ length tiles * length (enter_rows (take row roots) [])
    + (tile + 1) * length (new_of (root_in roots row) (enter_rows (take row roots) []))
length-through tiles roots row tile apart within =
    let held = enter_rows (take row roots) [] in
    let new = new_of (root_in roots row) held in
    let before : length (blocks tiles (take row roots) []) + length tiles * 0 ≡ length tiles * length held =
    length-blocks tiles (take row roots) [] in
    let here : length (block (take (tile + 1) tiles) new) ≡ (tile + 1) * length new =
    length-block (take (tile + 1) tiles) new ∙ ap (λ n. n * length new) (taken tiles tile within) in
    ap length (through-blocks tiles roots row tile apart)
    ∙ length-append (blocks tiles (take row roots) []) (block (take (tile + 1) tiles) new)
    ∙ ap₂ (λ m n. m + n) (omega arith) here

pub inputs_in-through :
    (tiles : List Area) (roots : List Expr) (row tile : ℕ) → GrowApart tiles → tile < length tiles
    → inputs_in (aliases_through tiles roots row tile)
    ≡ length tiles * inputs_entered (enter_rows (take row roots) [])
    + (tile + 1) * inputs_entered (new_of (root_in roots row) (enter_rows (take row roots) []))
inputs_in-through tiles roots row tile apart within =
    let held = enter_rows (take row roots) [] in
    let new = new_of (root_in roots row) held in
    let before : inputs_in (blocks tiles (take row roots) []) + length tiles * 0 ≡ length tiles * inputs_entered held =
    inputs_in-blocks tiles (take row roots) [] in
    let here : inputs_in (block (take (tile + 1) tiles) new) ≡ (tile + 1) * inputs_entered new =
    inputs_in-block (take (tile + 1) tiles) new ∙ ap (λ n. n * inputs_entered new) (taken tiles tile within) in
    ap inputs_in (through-blocks tiles roots row tile apart)
    ∙ inputs_in-append (blocks tiles (take row roots) []) (block (take (tile + 1) tiles) new)
    ∙ ap₂ (λ m n. m + n) (omega arith) here

-- ---- numbers

get_in_block :
    (tiles : List Area) (new : List Spread) (t i : ℕ) (tile : Area) (x : Spread) → slice_get tiles t ≡ Some tile
    → slice_get new i ≡ Some x → slice_get (block tiles new) (t * length new + i) ≡ Some (alias_on tile x)
get_in_block [] new t i tile x at here = cc
get_in_block (a ∷ tiles) new zero i tile x at here =
    let place : 0 * length new + i ≡ i = omega arith in
    let same : a ≡ tile = cc in
    ap (slice_get (block (a ∷ tiles) new)) place
    ∙ place-append (map (alias_on a) new) (block tiles new) i (alias_on tile x)
    (slice_get-map (alias_on a) new i ∙ ap (option_map (alias_on a)) here ∙ ap (λ r. Some (alias_on r x)) same)
get_in_block (a ∷ tiles) new (suc t) i tile x at here =
    let n = length new in
    let place : suc t * n + i ≡ length (map (alias_on a) new) + (t * n + i) =
    omega (arith, suc-mul t n, length-map new (alias_on a)) in
    ap (slice_get (block (a ∷ tiles) new)) place
    ∙ place-behind (map (alias_on a) new) (block tiles new) (t * n + i)
    ∙ get_in_block tiles new t i tile x at here

rows_behind :
    (roots : List Expr) (held : List Spread) → (more : List Spread) × (enter_rows roots held ≡ held ++ more)
rows_behind [] held = ([], sym (append-nil held))
rows_behind (e ∷ roots) held =
    let rest = rows_behind roots (enter e 0 held) in (
      new_of e held ++ rest.0,
      rest.1 ∙ ap (λ m. m ++ rest.0) (entered_new e 0 held) ∙ append_assoc held (new_of e held) rest.0,
    )

by_row :
    (tiles : List Area) (e : Expr) (roots : List Expr) (held : List Spread) (j t : ℕ) (tile : Area) (x : Spread)
    → slice_get tiles t ≡ Some tile → length held ≤ j → slice_get (enter_rows roots (enter e 0 held)) j ≡ Some x
    → (b : Bool) → nat_lt j (length (enter e 0 held)) ≡ b
    → (length (enter e 0 held) ≤ j → slice_get (enter_rows roots (enter e 0 held)) j ≡ Some x
    → slice_get (blocks tiles roots (enter e 0 held)) (number_on (length tiles) roots (enter e 0 held) j t)
    ≡ Some (alias_on tile x))
    → slice_get (block tiles (new_of e held) ++ blocks tiles roots (enter e 0 held))
    (if b
    then t * length (new_of e held) + (j - length held)
    else length tiles * length (new_of e held) + number_on (length tiles) roots (enter e 0 held) j t)
    ≡ Some (alias_on tile x)
by_row tiles e roots held j t tile x at behind here true is later =
    let within : j < length (enter e 0 held) = ltb-true j (length (enter e 0 held)) is in
    let more = rows_behind roots (enter e 0 held) in
    let entered : slice_get (enter e 0 held) j ≡ Some x =
    front_of (enter e 0 held) more.0 j x within (ap (λ l. slice_get l j) (sym more.1) ∙ here) in
    let new : slice_get (new_of e held) (j - length held) ≡ Some x =
    rest_of held (new_of e held) j x behind (ap (λ l. slice_get l j) (sym (entered_new e 0 held)) ∙ entered) in
    place-append (block tiles (new_of e held)) (blocks tiles roots (enter e 0 held))
    (t * length (new_of e held) + (j - length held)) (alias_on tile x)
    (get_in_block tiles (new_of e held) t (j - length held) tile x at new)
by_row tiles e roots held j t tile x at behind here false is later =
    let number = number_on (length tiles) roots (enter e 0 held) j t in
    ap (λ n. slice_get (block tiles (new_of e held) ++ blocks tiles roots (enter e 0 held)) (n + number))
    (sym (length-block tiles (new_of e held)))
    ∙ place-behind (block tiles (new_of e held)) (blocks tiles roots (enter e 0 held)) number
    ∙ later (ltb-false j (length (enter e 0 held)) is) here

get_in_blocks :
    (tiles : List Area) (roots : List Expr) (held : List Spread) (j t : ℕ) (tile : Area) (x : Spread)
    → slice_get tiles t ≡ Some tile → length held ≤ j → slice_get (enter_rows roots held) j ≡ Some x
    → slice_get (blocks tiles roots held) (number_on (length tiles) roots held j t) ≡ Some (alias_on tile x)
get_in_blocks tiles [] held j t tile x at behind here =
    let within : j < length held = slice_get_within held j x here in absurd (omega arith)
get_in_blocks tiles (e ∷ roots) held j t tile x at behind here =
    by_row tiles e roots held j t tile x at behind here (nat_lt j (length (enter e 0 held))) refl
    (get_in_blocks tiles roots (enter e 0 held) j t tile x at)

pub numbers_in_blocks :
    (tiles : List Area) (roots : List Expr) (j t : ℕ) (tile : Area) (x : Spread) → GrowApart tiles
    → slice_get tiles t ≡ Some tile → slice_get (enter_rows roots []) j ≡ Some x
    → slice_get (aliases_of tiles roots) (number_on (length tiles) roots [] j t) ≡ Some (alias_on tile x)
numbers_in_blocks tiles roots j t tile x apart at here =
    ap (λ l. slice_get l (number_on (length tiles) roots [] j t)) (aliases_of-blocks tiles roots apart)
    ∙ get_in_blocks tiles roots [] j t tile x at (omega arith) here

-- ---- all aliases

pub length-aliases :
    (tiles : List Area) (roots : List Expr) → GrowApart tiles
    → length (aliases_of tiles roots) ≡ length tiles * length (enter_rows roots [])
length-aliases tiles roots apart =
    let all : length (blocks tiles roots []) + length tiles * 0 ≡ length tiles * length (enter_rows roots []) =
    length-blocks tiles roots [] in
    ap length (aliases_of-blocks tiles roots apart) ∙ omega arith

pub inputs_in-aliases :
    (tiles : List Area) (roots : List Expr) → GrowApart tiles
    → inputs_in (aliases_of tiles roots) ≡ length tiles * inputs_entered (enter_rows roots [])
inputs_in-aliases tiles roots apart =
    let all : inputs_in (blocks tiles roots []) + length tiles * 0 ≡ length tiles * inputs_entered (enter_rows roots []) =
    inputs_in-blocks tiles roots [] in
    ap inputs_in (aliases_of-blocks tiles roots apart) ∙ omega arith

-- how many there are after each row
length-visited :
    (tiles : List Area) (e : Expr) (held : List Spread) (l : List Alias) → GrowApart tiles → EachHas tiles held l
    → length l ≡ length tiles * length held
    → length (visit_tiles e tiles l) ≡ length tiles * length (enter e 0 held)
length-visited tiles e held l apart has long =
    let n = length tiles in
    let more : n * length (enter e 0 held) ≡ n * length held + n * length (new_of e held) =
    ap (λ m. n * m) (length-entered e held) ∙ mul-add n (length held) (length (new_of e held)) in
    ap length (visit_tiles-block e held tiles l apart has) ∙ length-append l (block tiles (new_of e held))
    ∙ omega (arith, length-block tiles (new_of e held))

ends_behind :
    (tiles : List Area) (roots : List Expr) (held : List Spread) (l : List Alias) (row : ℕ) → GrowApart tiles
    → EachHas tiles held l → length l ≡ length tiles * length held → row < length roots
    → slice_get (ends_of tiles roots l) row ≡ Some (length tiles * length (enter_rows (take (suc row) roots) held))
ends_behind tiles [] held l row apart has long within = absurd (omega arith)
ends_behind tiles (e ∷ roots) held l zero apart has long within =
    ap (λ m. Some m) (length-visited tiles e held l apart has long)
ends_behind tiles (e ∷ roots) held l (suc row) apart has long within =
    ends_behind tiles roots (enter e 0 held) (visit_tiles e tiles l) row apart
    (subst (EachHas tiles (enter e 0 held)) (sym (visit_tiles-block e held tiles l apart has))
    (each_has_more e held tiles l apart has))
    (length-visited tiles e held l apart has long) (omega arith)

pub ends_in_blocks :
    (tiles : List Area) (roots : List Expr) (row : ℕ) → GrowApart tiles → row < length roots
    → slice_get (ends_of tiles roots []) row ≡ Some (length tiles * length (enter_rows (take (row + 1) roots) []))
ends_in_blocks tiles roots row apart within =
    let next : suc row ≡ row + 1 = omega arith in
    ends_behind tiles roots [] [] row apart (none_held tiles) (omega arith) within
    ∙ ap (λ n. Some (length tiles * length (enter_rows (take n roots) []))) next

-- ---- the number of an expression of a row

pub number_in_row :
    (n : ℕ) (roots : List Expr) (held : List Spread) (row j t : ℕ) → row < length roots
    → length (enter_rows (take row roots) held) ≤ j → j < length (enter_rows (take (suc row) roots) held)
    → number_on n roots held j t + n * length held
    ≡ n * length (enter_rows (take row roots) held)
    + (t * length (new_of (root_in roots row) (enter_rows (take row roots) held))
    + (j - length (enter_rows (take row roots) held)))
number_in_row n [] held row j t within least below = absurd (omega arith)
number_in_row n (e ∷ roots) held zero j t within least below =
    let here : number_on n (e ∷ roots) held j t ≡ t * length (new_of e held) + (j - length held) =
    cond-true (nat_lt j (length (enter e 0 held))) (t * length (new_of e held) + (j - length held))
    (n * length (new_of e held) + number_on n roots (enter e 0 held) j t) (lt-ltb j (length (enter e 0 held)) below) in
    omega arith
number_in_row n (e ∷ roots) held (suc row) j t within least below =
    let behind = rows_behind (take row roots) (enter e 0 held) in
    let long : length (enter_rows (take row roots) (enter e 0 held)) ≡ length (enter e 0 held) + length behind.0 =
    ap length behind.1 ∙ length-append (enter e 0 held) behind.0 in
    let past : number_on n (e ∷ roots) held j t ≡ n * length (new_of e held) + number_on n roots (enter e 0 held) j t =
    cond-false (nat_lt j (length (enter e 0 held))) (t * length (new_of e held) + (j - length held))
    (n * length (new_of e held) + number_on n roots (enter e 0 held) j t)
    (le-ltb j (length (enter e 0 held)) (omega arith)) in
    let more : n * length (enter e 0 held) ≡ n * length held + n * length (new_of e held) =
    ap (λ m. n * m) (length-entered e held) ∙ mul-add n (length held) (length (new_of e held)) in
    ap (λ m. m + n * length held) past
    ∙ omega (arith, more)
    ∙ number_in_row n roots (enter e 0 held) row j t (omega arith) least below

pub number_of_row :
    (n : ℕ) (roots : List Expr) (row j t : ℕ) → row < length roots
    → length (enter_rows (take row roots) []) ≤ j → j < length (enter_rows (take (row + 1) roots) [])
    → number_on n roots [] j t
    ≡ n * length (enter_rows (take row roots) [])
    + (t * length (new_of (root_in roots row) (enter_rows (take row roots) []))
    + (j - length (enter_rows (take row roots) [])))
number_of_row n roots row j t within least below =
    let next : row + 1 ≡ suc row = omega arith in
    let under : j < length (enter_rows (take (suc row) roots) []) =
    subst (λ m. j < length (enter_rows (take m roots) [])) next below in
    let none : number_on n roots [] j t ≡ number_on n roots [] j t + n * 0 = omega arith in
    none ∙ number_in_row n roots [] row j t within least under
