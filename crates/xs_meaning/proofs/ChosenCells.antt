-- A column shows the exposure whose rows contain a row, and nothing where there is none
use Rattle.std.proofs.Common.{ℕ, ◌-◌, ◌≡◌, refl, sym, ap, ◌∙◌, Bool, true, false, cond, true≢false, Option, Some, None, List, [], ◌∷◌, find, All, IfSome, Contains, MatchOption}
use Rattle.std.specs.Option.{option_map_or}
use Rattle.std.proofs.lemmas.List.Elements.{All-head, All-tail, All-nil, All-cons, All-contains, All-contains_itself}
use Rattle.xs_scene.specs.declared.seen.Seen.{Seen}
use Rattle.xs_scene.specs.declared.seen.Seen.TheVariants.{Empty}
use Rattle.xs_scene.specs.Records.{ColumnRecord, ExposureRecord}
use Rattle.xs_meaning.specs.Cells.{covers, shown_after, cell_at}
use Rattle.xs_meaning.specs.Chosen.{IsOnlyAt}
use Rattle.xs_meaning.proofs.Depth.{find-has}

find-passes : {X : Type 0} (test : X → Bool) (xs : List X) → IfSome (find test xs) (λ x. test x ≡ true)
find-passes test [] = tt
find-passes {X = X} test (x ∷ xs) = split (test x) refl (find-passes test xs)
  where
    split : (b : Bool) → test x ≡ b → IfSome (find test xs) (λ x. test x ≡ true)
        → IfSome (cond b (Some x) (find test xs)) (λ x. test x ≡ true)
    split true is rest = is
    split false is rest = rest

find-none : {X : Type 0} (test : X → Bool) (xs : List X) → All (λ x. test x ≡ false) xs → find test xs ≡ None
find-none test [] all = refl
find-none test (x ∷ xs) all =
    ap (λ b. cond b (Some x) (find test xs)) (All-head (λ x. test x ≡ false) x xs all)
    ∙ find-none test xs (All-tail (λ x. test x ≡ false) x xs all)

none-find : {X : Type 0} (test : X → Bool) (xs : List X) → find test xs ≡ None → All (λ x. test x ≡ false) xs
none-find test [] none = All-nil (λ x. test x ≡ false)
none-find {X = X} test (x ∷ xs) none = split (test x) refl (none-find test xs) none
  where
    Fails : X → Type 0
    Fails x = test x ≡ false

    split : (b : Bool) → test x ≡ b → (find test xs ≡ None → All Fails xs)
        → cond b (Some x) (find test xs) ≡ None → All Fails (x ∷ xs)
    split true is rest none = cc
    split false is rest none = All-cons Fails x xs is (rest none)

find-only :
    {X : Type 0} (test : X → Bool) (xs : List X) (x : X) → Contains xs x → test x ≡ true
    → All (λ other. test other ≡ true → other ≡ x) xs → find test xs ≡ Some x
find-only {X = X} test xs x among passes only =
    same (find test xs) refl (find-has (Contains xs) test xs (All-contains_itself xs)) (find-passes test xs)
  where
    same : (found : Option X) → find test xs ≡ found → IfSome found (Contains xs) → IfSome found (λ x. test x ≡ true)
        → found ≡ Some x
    same None is in_list found_passes =
        absurd (true≢false (sym passes ∙ All-contains (λ x. test x ≡ false) xs x (none-find test xs is) among))
    same (Some other) is in_list found_passes =
        ap Some (All-contains (λ other. test other ≡ true → other ≡ x) xs other only in_list found_passes)

pub cell_at-own :
    (column : ColumnRecord) (row : ℕ)
    → MatchOption (find (covers row) column.cells) (cell_at column row ≡ Empty)
    (λ e. Contains column.cells e × (cell_at column row ≡ shown_after (row - e.from) e.shown))
unfolding cell_at
cell_at-own column row =
    own (find (covers row) column.cells) (find-has (Contains column.cells) (covers row) column.cells (All-contains_itself column.cells))
  where
    shows : Option ExposureRecord → Seen
    shows found = option_map_or (λ e. shown_after (row - e.from) e.shown) found Empty

    own : (found : Option ExposureRecord) → IfSome found (Contains column.cells)
        → MatchOption found (shows found ≡ Empty) (λ e. Contains column.cells e × (shows found ≡ shown_after (row - e.from) e.shown))
    own None among = refl
    own (Some e) among = (among, refl)

pub cell_at-only :
    (column : ColumnRecord) (row : ℕ) (e : ExposureRecord) → IsOnlyAt column row e
    → cell_at column row ≡ shown_after (row - e.from) e.shown
unfolding cell_at
cell_at-only column row e is =
    ap (λ found. option_map_or (λ e. shown_after (row - e.from) e.shown) found Empty)
    (find-only (covers row) column.cells e is.among is.at_row is.only)

pub cell_at-gap :
    (column : ColumnRecord) (row : ℕ) → All (λ e. covers row e ≡ false) column.cells → cell_at column row ≡ Empty
unfolding cell_at
cell_at-gap column row gap =
    ap (λ found. option_map_or (λ e. shown_after (row - e.from) e.shown) found Empty)
    (find-none (covers row) column.cells gap)
