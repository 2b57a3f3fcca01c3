-- The first limit that is passed
use Rattle.std.proofs.Common.{◌≡◌, ◌⊎◌, ◌<◌, ◌≤◌, ◌+◌, ◌*◌, ◌↔◌, zero, suc, ℕ, Option, Some, None, List, [], ◌∷◌, ◌++◌, length, take, map, flat_map, refl, sym, ap, ap₂, ◌∙◌, inl, inr, arith, suc-mul}
use Rattle.std.specs.List.{range_with_len}
use Rattle.std.specs.Option.{option_or}
use Rattle.std.proofs.lemmas.Bool.{cases_eq, cases_order}
use Rattle.std.proofs.lemmas.Option.{none-some, same_Some}
use Rattle.std.proofs.lemmas.Bool.Decides.{nat_tests}
use Rattle.std.proofs.lemmas.List.{append_assoc, length_push, take_at, get_or_at}
use Rattle.xs_rect.specs.Area.{Area}
use Rattle.xs_meaning.specs.Expressions.{Expr, Clear, reach_of}
use Rattle.xs_plan.specs.declared.limits.TheConstants.{MOST_ALIASES, MOST_READS, FARTHEST_REACH}
use Rattle.xs_demand.specs.Aliases.{Alias, inputs_in, visit, visit_tiles, visit_rows}
use Rattle.xs_demand.specs.Limits.{Limit, Reach, Aliases, Reads, limit_passed, root_in, aliases_through, limit_at, first_some, first_limit, NonePassed, PassedFirst, first_limit_on, first_limit_from}
use Rattle.xs_demand.proofs.VisitLemmas.{visit_tiles-append, visit_rows-append}

-- ---- the first of some options

first_some-append :
    {A : Type 0} (xs ys : List (Option A)) → first_some (xs ++ ys) ≡ option_or (first_some xs) (first_some ys)
first_some-append [] ys = refl
first_some-append (None ∷ xs) ys = first_some-append xs ys
first_some-append (Some x ∷ xs) ys = refl

first_some-cons : {A : Type 0} (x : Option A) (xs : List (Option A)) → first_some (x ∷ xs) ≡ option_or x (first_some xs)
first_some-cons None xs = refl
first_some-cons (Some x) xs = refl

first_some-flat_map :
    {A X : Type 0} (f : X → List (Option A)) (xs : List X) → first_some (flat_map f xs) ≡ first_some (map (λ x. first_some (f x)) xs)
first_some-flat_map f [] = refl
first_some-flat_map f (x ∷ xs) =
    first_some-append (f x) (flat_map f xs)
    ∙ ap (option_or (first_some (f x))) (first_some-flat_map f xs)
    ∙ sym (first_some-cons (first_some (f x)) (map (λ y. first_some (f y)) xs))

pub or_none : {A : Type 0} (x y : Option A) → option_or x y ≡ None → (x ≡ None) × (y ≡ None)
or_none None y none = (refl, none)
or_none (Some x) y none = cc

or_some : {A : Type 0} (x y : Option A) (w : A) → option_or x y ≡ Some w → (x ≡ Some w) ⊎ ((x ≡ None) × (y ≡ Some w))
or_some None y w some = inr (refl, some)
or_some (Some x) y w some = inl some

-- over numbers in order
abbrev pub first_in : {A : Type 0} → (ℕ → Option A) → ℕ → ℕ → Option A
first_in f from count = first_some (map f (range_with_len from count))

first_in-suc :
    {A : Type 0} (f : ℕ → Option A) (from count : ℕ) → first_in f from (suc count) ≡ option_or (f from) (first_in f (from + 1) count)
first_in-suc f from count = first_some-cons (f from) (map f (range_with_len (from + 1) count))

pub none_at :
    {A : Type 0} (f : ℕ → Option A) (from count : ℕ) → first_in f from count ≡ None
    → (k : ℕ) → from ≤ k → k < from + count → f k ≡ None
none_at f from zero none k least below = absurd (omega arith)
none_at f from (suc count) none k least below =
    let both = or_none (f from) (first_in f (from + 1) count) (sym (first_in-suc f from count) ∙ none) in
    elim (cases_eq from k) [
      | inl here ↦ sym (ap f here) ∙ both.0
      | inr other ↦ none_at f (from + 1) count both.1 k (omega arith) (omega arith)
    ]

pub none_from :
    {A : Type 0} (f : ℕ → Option A) (from count : ℕ) → ((k : ℕ) → from ≤ k → k < from + count → f k ≡ None)
    → first_in f from count ≡ None
none_from f from zero none = refl
none_from f from (suc count) none =
    let first : f from ≡ None = none from (omega arith) (omega arith) in
    first_in-suc f from count
    ∙ ap (λ x. option_or x (first_in f (from + 1) count)) first
    ∙ none_from f (from + 1) count (λ k least below. none k (omega arith) (omega arith))

-- the place of the first, and nothing before it
pub record FirstAt {A : Type 0} (f : ℕ → Option A) (from count : ℕ) (w : A) : Type 0 where
  pub place : ℕ
  pub least : from ≤ place
  pub below : place < from + count
  pub is : f place ≡ Some w
  pub none : (k : ℕ) → from ≤ k → k < place → f k ≡ None

pub some_at :
    {A : Type 0} (f : ℕ → Option A) (from count : ℕ) (w : A) → first_in f from count ≡ Some w → FirstAt f from count w
some_at f from zero w some = cc
some_at f from (suc count) w some =
    elim (or_some (f from) (first_in f (from + 1) count) w (sym (first_in-suc f from count) ∙ some)) [
      | inl here ↦
          record {
            place = from;
            least = omega arith;
            below = omega arith;
            is = here;
            none = λ k least below. absurd (omega arith);
          }
      | inr later ↦
          let rest = some_at f (from + 1) count w later.1 in
          let least = rest.least in
          let below = rest.below in
          record {
            place = rest.place;
            least = omega arith;
            below = omega arith;
            is = rest.is;
            none =
                λ k least below. elim (cases_eq from k) [
                  | inl same ↦ sym (ap f same) ∙ later.0
                  | inr other ↦ rest.none k (omega arith) below
                ];
          }
    ]

-- ---- the limit by rows and then tiles

-- the limit that is passed first at a row
abbrev pub limit_in_row : List Area → List Expr → ℕ → Option Limit
limit_in_row tiles roots row = first_in (limit_at tiles roots row) 0 (length tiles)

first_limit_is :
    (tiles : List Area) (roots : List Expr) → first_limit tiles roots ≡ first_in (limit_in_row tiles roots) 0 (length roots)
unfolding first_limit
first_limit_is tiles roots =
    first_some-flat_map (λ row. map (limit_at tiles roots row) (range_with_len 0 (length tiles))) (range_with_len 0 (length roots))

pub none_passed : (tiles : List Area) (roots : List Expr) → first_limit tiles roots ≡ None → NonePassed tiles roots
none_passed tiles roots none row tile there among =
    let in_row = none_at (limit_in_row tiles roots) 0 (length roots) (sym (first_limit_is tiles roots) ∙ none) row (omega arith) (omega arith) in
    none_at (limit_at tiles roots row) 0 (length tiles) in_row tile (omega arith) (omega arith)

pub none_is_first : (tiles : List Area) (roots : List Expr) → NonePassed tiles roots → first_limit tiles roots ≡ None
none_is_first tiles roots none =
    first_limit_is tiles roots
    ∙ none_from (limit_in_row tiles roots) 0 (length roots)
    (λ row least below. none_from (limit_at tiles roots row) 0 (length tiles)
    (λ tile low among. none row tile (omega arith) (omega arith)))

pub some_passed :
    (tiles : List Area) (roots : List Expr) (what : Limit) → first_limit tiles roots ≡ Some what → PassedFirst tiles roots what
some_passed tiles roots what some =
    let in_rows = some_at (limit_in_row tiles roots) 0 (length roots) what (sym (first_limit_is tiles roots) ∙ some) in
    let on_tiles = some_at (limit_at tiles roots in_rows.place) 0 (length tiles) what in_rows.is in
    let below = in_rows.below in
    let within = on_tiles.below in
    record {
      row = in_rows.place;
      tile = on_tiles.place;
      there = omega arith;
      among = omega arith;
      passed = on_tiles.is;
      before_row =
          λ earlier other before there.
          none_at (limit_at tiles roots earlier) 0 (length tiles) (in_rows.none earlier (omega arith) before) other (omega arith) (omega arith);
      before_tile = λ other before. on_tiles.none other (omega arith) before;
    }

-- two that are passed first are one
one_limit : (tiles : List Area) (roots : List Expr) (what other : Limit) → PassedFirst tiles roots what → PassedFirst tiles roots other → what ≡ other
one_limit tiles roots what other p q =
    let row : p.row ≡ q.row = elim (cases_order p.row q.row) [
      | inl same ↦ same
      | inr less ↦ elim less [
        | inl before ↦ absurd (none-some what (sym (q.before_row p.row p.tile before p.among) ∙ p.passed))
        | inr before ↦ absurd (none-some other (sym (p.before_row q.row q.tile before q.among) ∙ q.passed))
      ]
    ] in
    let tile : p.tile ≡ q.tile = elim (cases_order p.tile q.tile) [
      | inl same ↦ same
      | inr less ↦ elim less [
        | inl before ↦
            absurd (none-some what (sym (q.before_tile p.tile before) ∙ ap (λ n. limit_at tiles roots n p.tile) (sym row) ∙ p.passed))
        | inr before ↦
            absurd (none-some other (sym (p.before_tile q.tile before) ∙ ap (λ n. limit_at tiles roots n q.tile) row ∙ q.passed))
      ]
    ] in
    same_Some what other (sym p.passed ∙ ap₂ (limit_at tiles roots) row tile ∙ q.passed)

pub passed_is_first : (tiles : List Area) (roots : List Expr) (what : Limit) → PassedFirst tiles roots what → first_limit tiles roots ≡ Some what
passed_is_first tiles roots what p = by_first (first_limit tiles roots) refl
  where
    by_first : (found : Option Limit) → first_limit tiles roots ≡ found → found ≡ Some what
    by_first None none = absurd (none-some what (sym (none_passed tiles roots none p.row p.tile p.there p.among) ∙ p.passed))
    by_first (Some other) some = ap (λ x. Some x) (one_limit tiles roots other what (some_passed tiles roots other some) p)

-- ---- which limit

pub by_reach : (root : Expr) (l : List Alias) (visited : ℕ) → limit_passed root l visited ≡ Some Reach ↔ FARTHEST_REACH < reach_of root
by_reach root l visited = (λ h. grind (arith, nat_tests), λ h. grind (arith, nat_tests))

pub by_aliases :
    (root : Expr) (l : List Alias) (visited : ℕ)
    → limit_passed root l visited ≡ Some Aliases ↔ ((reach_of root ≤ FARTHEST_REACH) × (MOST_ALIASES < length l))
by_aliases root l visited = (λ h. (grind (arith, nat_tests), grind (arith, nat_tests)), λ h. grind (arith, nat_tests))

pub by_reads :
    (root : Expr) (l : List Alias) (visited : ℕ)
    → limit_passed root l visited ≡ Some Reads
    ↔ ((reach_of root ≤ FARTHEST_REACH) × (length l ≤ MOST_ALIASES) × (MOST_READS < inputs_in l + visited))
by_reads root l visited =
    (λ h. (grind (arith, nat_tests), grind (arith, nat_tests), grind (arith, nat_tests)), λ h. grind (arith, nat_tests))

pub by_none :
    (root : Expr) (l : List Alias) (visited : ℕ)
    → limit_passed root l visited ≡ None
    ↔ ((reach_of root ≤ FARTHEST_REACH) × (length l ≤ MOST_ALIASES) × (inputs_in l + visited ≤ MOST_READS))
by_none root l visited =
    (λ h. (grind (arith, nat_tests), grind (arith, nat_tests), grind (arith, nat_tests)), λ h. grind (arith, nat_tests))

-- ---- on the way

-- the limit at a tile of a row, behind the aliases of earlier rows
limit_on : Expr → List Area → List Alias → ℕ → ℕ → Option Limit
limit_on e tiles l visited tile = limit_passed e (visit_tiles e (take (tile + 1) tiles) l) (visited + tile + 1)

same_limits :
    (e : Expr) (done : List Area) (tile : Area) (rest : List Area) (l : List Alias) (visited : ℕ)
    → limit_on e (done ++ tile ∷ rest) l visited (length done) ≡ limit_passed e (visit e tile (visit_tiles e done l)) (visited + length done + 1)
unfolding limit_on
same_limits e done tile rest l visited =
    let longer = done ++ tile ∷ [] in
    let same : done ++ tile ∷ rest ≡ longer ++ rest = sym (append_assoc done (tile ∷ []) rest) in
    let front : take (length done + 1) (done ++ tile ∷ rest) ≡ longer =
    ap (take (length done + 1)) same ∙ take_at longer rest (length done + 1) (length_push done tile) in
    ap (λ front. limit_passed e (visit_tiles e front l) (visited + length done + 1)) front
    ∙ ap (λ m. limit_passed e m (visited + length done + 1)) (visit_tiles-append e done (tile ∷ []) l)

-- from a tile on
on_tiles_from :
    (e : Expr) (done rest : List Area) (l : List Alias) (visited : ℕ)
    → first_in (limit_on e (done ++ rest) l visited) (length done) (length rest)
    ≡ first_limit_on e rest (visit_tiles e done l) (visited + length done)
on_tiles_from e done [] l visited = refl
on_tiles_from e done (tile ∷ rest) l visited =
    let longer = done ++ tile ∷ [] in
    let same : done ++ tile ∷ rest ≡ longer ++ rest = sym (append_assoc done (tile ∷ []) rest) in
    let long : length done + 1 ≡ length longer = sym (length_push done tile) in
    let m = visit e tile (visit_tiles e done l) in
    let list : visit_tiles e longer l ≡ m = visit_tiles-append e done (tile ∷ []) l in
    let count : visited + length longer ≡ visited + length done + 1 = omega arith in
    first_in-suc (limit_on e (done ++ tile ∷ rest) l visited) (length done) (length rest)
    ∙ ap₂ option_or (same_limits e done tile rest l visited)
    (ap₂ (λ tiles from. first_in (limit_on e tiles l visited) from (length rest)) same long
    ∙ on_tiles_from e longer rest l visited
    ∙ ap₂ (first_limit_on e rest) list count)

-- the first limit of a row
limit_in_row_is :
    (tiles : List Area) (done : List Expr) (e : Expr) (rest : List Expr)
    → limit_in_row tiles (done ++ e ∷ rest) (length done)
    ≡ first_limit_on e tiles (visit_rows tiles done []) (length done * length tiles)
unfolding aliases_through limit_on
limit_in_row_is tiles done e rest =
    let root : root_in (done ++ e ∷ rest) (length done) ≡ e = get_or_at done e rest Clear (length done) refl in
    let front : take (length done) (done ++ e ∷ rest) ≡ done = take_at done (e ∷ rest) (length done) refl in
    let count : length done * length tiles + 0 ≡ length done * length tiles = omega arith in
    ap₂
    (λ e rows.
    first_in (λ tile. limit_passed e (visit_tiles e (take (tile + 1) tiles) (visit_rows tiles rows [])) (length done * length tiles + tile + 1))
    0 (length tiles))
    root front
    ∙ on_tiles_from e [] tiles (visit_rows tiles done []) (length done * length tiles)
    ∙ ap (first_limit_on e tiles (visit_rows tiles done [])) count

-- from a row on
in_rows_from :
    (tiles : List Area) (done rest : List Expr)
    → first_in (limit_in_row tiles (done ++ rest)) (length done) (length rest)
    ≡ first_limit_from tiles rest (visit_rows tiles done []) (length done * length tiles)
in_rows_from tiles done [] = refl
in_rows_from tiles done (e ∷ rest) =
    let longer = done ++ e ∷ [] in
    let same : done ++ e ∷ rest ≡ longer ++ rest = sym (append_assoc done (e ∷ []) rest) in
    let long : length done + 1 ≡ length longer = sym (length_push done e) in
    let list : visit_rows tiles longer [] ≡ visit_tiles e tiles (visit_rows tiles done []) = visit_rows-append tiles done (e ∷ []) [] in
    let count : length longer * length tiles ≡ length done * length tiles + length tiles =
    ap (λ n. n * length tiles) (sym long) ∙ ap (λ n. n * length tiles) (omega arith) ∙ suc-mul (length done) (length tiles) in
    first_in-suc (limit_in_row tiles (done ++ e ∷ rest)) (length done) (length rest)
    ∙ ap₂ option_or (limit_in_row_is tiles done e rest)
    (ap₂ (λ roots from. first_in (limit_in_row tiles roots) from (length rest)) same long
    ∙ in_rows_from tiles longer rest
    ∙ ap₂ (first_limit_from tiles rest) list count)

pub found_on_the_way : (tiles : List Area) (roots : List Expr) → first_limit tiles roots ≡ first_limit_from tiles roots [] 0
found_on_the_way tiles roots =
    let none : 0 * length tiles ≡ 0 = omega arith in
    first_limit_is tiles roots ∙ in_rows_from tiles [] roots ∙ ap (first_limit_from tiles roots []) none
