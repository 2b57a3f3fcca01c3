-- The key that is chosen from a list is one of it
use Rattle.std.proofs.Common.{ℕ, ◌+◌, ◌<◌, ◌++◌, length, take, get_or, append-nil, ap, arith, ◌≡◌, ◌≤◌, refl, sym, subst, Bool, true, false, cond, nat_lt, Option, Some, None, List, [], ◌∷◌, All, IfSome, le_refl, le_trans, le_of_lt, ltb-true, ltb-false, filter, ◌∙◌, true≢false}
use Rattle.std.proofs.lemmas.Bool.{cond_both}
use Rattle.std.proofs.lemmas.Bool.Decides.{nat_tests}
use Rattle.std.proofs.lemmas.List.Elements.{All-head, All-tail, All-nil, All-cons, All-weaker, filter_more}
use Rattle.xs_meaning.specs.Keys.{later, earlier, latest, earliest, newest, nearest}

later-has : {K : Type 0} (P : K → Type 0) (row : K → ℕ) (k : K) (best : Option K) → P k → IfSome best P → P (later row k best)
later-has P row k None here rest = here
later-has P row k (Some best) here rest =
    cond_both (nat_lt (row k) (row best)) best k P (λ passes. rest) (λ fails. here)

earlier-has : {K : Type 0} (P : K → Type 0) (row : K → ℕ) (k : K) (best : Option K) → P k → IfSome best P → P (earlier row k best)
earlier-has P row k None here rest = here
earlier-has P row k (Some best) here rest =
    cond_both (nat_lt (row best) (row k)) best k P (λ passes. rest) (λ fails. here)

pub latest-has : {K : Type 0} (P : K → Type 0) (row : K → ℕ) (ks : List K) → All P ks → IfSome (latest row ks) P
latest-has P row [] all = tt
latest-has P row (k ∷ ks) all =
    later-has P row k (latest row ks) (All-head P k ks all) (latest-has P row ks (All-tail P k ks all))

pub earliest-has : {K : Type 0} (P : K → Type 0) (row : K → ℕ) (ks : List K) → All P ks → IfSome (earliest row ks) P
earliest-has P row [] all = tt
earliest-has P row (k ∷ ks) all =
    earlier-has P row k (earliest row ks) (All-head P k ks all) (earliest-has P row ks (All-tail P k ks all))

-- and no key of the list has a greater row, or a lesser one

later-greatest :
    {K : Type 0} (row : K → ℕ) (k : K) (best : Option K) (ks : List K)
    → IfSome best (λ b. All (λ x. row x ≤ row b) ks) → (best ≡ None → ks ≡ [])
    → All (λ x. row x ≤ row (later row k best)) (k ∷ ks)
later-greatest row k None ks greatest empty =
    All-cons (λ x. row x ≤ row k) k ks (le_refl (row k))
    (subst (All (λ x. row x ≤ row k)) (sym (empty refl)) (All-nil (λ x. row x ≤ row k)))
later-greatest row k (Some best) ks greatest empty =
    choose (nat_lt (row k) (row best)) refl
  where
    choose : (b : Bool) → nat_lt (row k) (row best) ≡ b → All (λ x. row x ≤ row (cond b best k)) (k ∷ ks)
    choose true is =
        All-cons (λ x. row x ≤ row best) k ks (le_of_lt (ltb-true (row k) (row best) is)) greatest
    choose false is =
        All-cons (λ x. row x ≤ row k) k ks (le_refl (row k))
        (All-weaker (λ x. row x ≤ row best) (λ x. row x ≤ row k)
        (λ x le. le_trans le (ltb-false (row k) (row best) is)) ks greatest)

pub latest-none : {K : Type 0} (row : K → ℕ) (ks : List K) → latest row ks ≡ None → ks ≡ []
latest-none row [] none = refl
latest-none row (k ∷ ks) none = cc

pub latest-greatest :
    {K : Type 0} (row : K → ℕ) (ks : List K) → IfSome (latest row ks) (λ best. All (λ x. row x ≤ row best) ks)
latest-greatest row [] = tt
latest-greatest row (k ∷ ks) =
    later-greatest row k (latest row ks) ks (latest-greatest row ks) (latest-none row ks)

earlier-least :
    {K : Type 0} (row : K → ℕ) (k : K) (best : Option K) (ks : List K)
    → IfSome best (λ b. All (λ x. row b ≤ row x) ks) → (best ≡ None → ks ≡ [])
    → All (λ x. row (earlier row k best) ≤ row x) (k ∷ ks)
earlier-least row k None ks least empty =
    All-cons (λ x. row k ≤ row x) k ks (le_refl (row k))
    (subst (All (λ x. row k ≤ row x)) (sym (empty refl)) (All-nil (λ x. row k ≤ row x)))
earlier-least row k (Some best) ks least empty =
    choose (nat_lt (row best) (row k)) refl
  where
    choose : (b : Bool) → nat_lt (row best) (row k) ≡ b → All (λ x. row (cond b best k) ≤ row x) (k ∷ ks)
    choose true is =
        All-cons (λ x. row best ≤ row x) k ks (le_of_lt (ltb-true (row best) (row k) is)) least
    choose false is =
        All-cons (λ x. row k ≤ row x) k ks (le_refl (row k))
        (All-weaker (λ x. row best ≤ row x) (λ x. row k ≤ row x)
        (λ x le. le_trans (ltb-false (row best) (row k) is) le) ks least)

pub earliest-none : {K : Type 0} (row : K → ℕ) (ks : List K) → earliest row ks ≡ None → ks ≡ []
earliest-none row [] none = refl
earliest-none row (k ∷ ks) none = cc

pub earliest-least :
    {K : Type 0} (row : K → ℕ) (ks : List K) → IfSome (earliest row ks) (λ best. All (λ x. row best ≤ row x) ks)
earliest-least row [] = tt
earliest-least row (k ∷ ks) =
    earlier-least row k (earliest row ks) ks (earliest-least row ks) (earliest-none row ks)

-- what holds of each item that passes a test, and what passes where none is left

pub filter-All :
    {X : Type 0} (P : X → Type 0) (test : X → Bool) (xs : List X)
    → All P (filter test xs) → All (λ x. test x ≡ true → P x) xs
filter-All P test [] all = All-nil (λ x. test x ≡ true → P x)
filter-All {X = X} P test (x ∷ xs) all = split (test x) refl (filter-All P test xs) all
  where
    Passes : X → Type 0
    Passes x = test x ≡ true → P x

    split : (b : Bool) → test x ≡ b → (All P (filter test xs) → All Passes xs)
        → All P (cond b (x ∷ filter test xs) (filter test xs)) → All Passes (x ∷ xs)
    split true is rest all =
        All-cons Passes x xs (λ passes. All-head P x (filter test xs) all) (rest (All-tail P x (filter test xs) all))
    split false is rest all =
        All-cons Passes x xs (λ passes. absurd (true≢false (sym passes ∙ is))) (rest all)

pub filter-none : {X : Type 0} (test : X → Bool) (xs : List X) → filter test xs ≡ [] → All (λ x. test x ≡ true → ⊥) xs
filter-none test xs none =
    filter-All (λ x. ⊥) test xs (subst (All (λ x. ⊥)) (sym none) (All-nil (λ x. ⊥)))

-- ---- one key more

later-newest : {K : Type 0} (row : K → ℕ) (x k : K) (o : Option K) → later row x (Some (newest row o k)) ≡ newest row (Some (later row x o)) k
later-newest row x k None = refl
later-newest row x k (Some b) = grind (arith, nat_tests)

pub latest-push : {K : Type 0} (row : K → ℕ) (xs : List K) (k : K) → latest row (xs ++ k ∷ []) ≡ Some (newest row (latest row xs) k)
latest-push row [] k = refl
latest-push row (x ∷ xs) k = ap (λ o. Some (later row x o)) (latest-push row xs k) ∙ ap Some (later-newest row x k (latest row xs))

earlier-nearest : {K : Type 0} (row : K → ℕ) (x k : K) (o : Option K) → earlier row x (Some (nearest row o k)) ≡ nearest row (Some (earlier row x o)) k
earlier-nearest row x k None = refl
earlier-nearest row x k (Some b) = grind (arith, nat_tests)

pub earliest-push : {K : Type 0} (row : K → ℕ) (xs : List K) (k : K) → earliest row (xs ++ k ∷ []) ≡ Some (nearest row (earliest row xs) k)
earliest-push row [] k = refl
earliest-push row (x ∷ xs) k = ap (λ o. Some (earlier row x o)) (earliest-push row xs k) ∙ ap Some (earlier-nearest row x k (earliest row xs))

-- a choice among the keys that pass a test, where one more key is met
pub choice-more :
    {K : Type 0} (choice : List K → Option K) (next : Option K → K → K)
    → ((xs : List K) (k : K) → choice (xs ++ k ∷ []) ≡ Some (next (choice xs) k))
    → (p : K → Bool) (xs : List K) (i : ℕ) (x : K) → i < length xs → x ≡ get_or xs i x
    → choice (filter p (take (i + 1) xs)) ≡ cond (p x) (Some (next (choice (filter p (take i xs))) x)) (choice (filter p (take i xs)))
choice-more {K = K} choice next push p xs i x within is =
    ap choice (filter_more p xs i x within ∙ ap (λ k. filter p (take i xs) ++ cond (p k) (k ∷ []) []) (sym is)) ∙ grown (p x)
  where
    grown :
        (b : Bool)
        → choice (filter p (take i xs) ++ cond b (x ∷ []) []) ≡ cond b (Some (next (choice (filter p (take i xs))) x)) (choice (filter p (take i xs)))
    grown true = push (filter p (take i xs)) x
    grown false = ap choice (append-nil (filter p (take i xs)))
