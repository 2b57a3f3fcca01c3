-- Elements of a list by their places
use Rattle.std.proofs.Common.{◌≡◌, ◌≢◌, ◌⊎◌, ◌<◌, ◌≤◌, ◌+◌, zero, suc, ℕ, List, [], ◌∷◌, ◌++◌, Some, AllPairs, Contains, length, slice_get, get_or, map, flat_map, refl, sym, ap, ◌∙◌, subst, inl, inr, arith}
use Rattle.std.proofs.lemmas.Bool.{cases_lt}
use Rattle.std.proofs.lemmas.List.Elements.{Contains-append_left, Contains-append_right, Contains-append_cases}
use Rattle.std.proofs.lemmas.Option.{slice_get-get_or, slice_get_within, get_or_from_slice_get}

-- an element of a list has a place there
pub place_of : {X : Type 0} (xs : List X) (x : X) → Contains xs x → (k : ℕ) × (k < length xs) × (slice_get xs k ≡ Some x)
place_of xs x there = (there.0, there.1, slice_get-get_or xs there.0 x there.1 ∙ ap (λ y. Some y) there.2)

-- and what has a place is an element
pub contained : {X : Type 0} (xs : List X) (k : ℕ) (x : X) → slice_get xs k ≡ Some x → Contains xs x
contained xs k x at = (k, slice_get_within xs k x at, get_or_from_slice_get xs k x x at)

-- a list of one element contains no other
pub only : {X : Type 0} (x y : X) → Contains (x ∷ []) y → x ≡ y
only x y (zero, below, is) = is
only x y (suc n, below, is) = absurd (omega arith)

pub none_in_nil : {X : Type 0} {P : Type 0} (y : X) → Contains [] y → P
none_in_nil y there = absurd (omega (arith, there.1))

-- an element keeps its place when others are appended
pub place-append :
    {X : Type 0} (xs ys : List X) (k : ℕ) (x : X) → slice_get xs k ≡ Some x → slice_get (xs ++ ys) k ≡ Some x
place-append [] ys k x at = cc
place-append (z ∷ xs) ys zero x at = at
place-append (z ∷ xs) ys (suc k) x at = place-append xs ys k x at

-- what stands behind a list has its place after it
pub place-behind : {X : Type 0} (xs ys : List X) (n : ℕ) → slice_get (xs ++ ys) (length xs + n) ≡ slice_get ys n
place-behind [] ys n = ap (slice_get ys) (omega arith)
place-behind (x ∷ xs) ys n =
    let next : suc (length xs) + n ≡ suc (length xs + n) = omega arith in
    ap (slice_get (x ∷ xs ++ ys)) next ∙ place-behind xs ys n

-- an element of a list that got others stood there before, or is one of those
pub before_or_behind :
    {X : Type 0} (xs ys : List X) (n : ℕ) (x : X) → slice_get (xs ++ ys) n ≡ Some x
    → (slice_get xs n ≡ Some x) ⊎ ((length xs ≤ n) × Contains ys x)
before_or_behind [] ys n x at = inr (omega arith, contained ys n x at)
before_or_behind (z ∷ xs) ys zero x at = inl at
before_or_behind (z ∷ xs) ys (suc n) x at =
    elim (before_or_behind xs ys n x at) [ inl old ↦ inl old | inr new ↦ inr (omega (arith, new.0), new.1) ]

-- of a list that got one more, it stood there before, or is the last one
pub before_or_last :
    {X : Type 0} (xs : List X) (y : X) (n : ℕ) (x : X) → slice_get (xs ++ y ∷ []) n ≡ Some x
    → (slice_get xs n ≡ Some x) ⊎ ((n ≡ length xs) × (y ≡ x))
before_or_last [] y zero x at = inr (refl, cc)
before_or_last [] y (suc n) x at = cc
before_or_last (z ∷ xs) y zero x at = inl at
before_or_last (z ∷ xs) y (suc n) x at =
    elim (before_or_last xs y n x at) [ inl old ↦ inl old | inr last ↦ inr (ap (λ m. suc m) last.0, last.1) ]

-- where no element stands twice, one that has two places has one
pub same_place :
    {X : Type 0} (xs : List X) → AllPairs (λ x y. x ≢ y) xs → (j k : ℕ) (x : X) → slice_get xs j ≡ Some x
    → slice_get xs k ≡ Some x → j ≡ k
same_place xs apart j k x here there =
    let first = slice_get_within xs j x here in
    let second = slice_get_within xs k x there in
    let same : get_or xs j x ≡ get_or xs k x = get_or_from_slice_get xs j x x here ∙ sym (get_or_from_slice_get xs k x x there) in
    elim (cases_lt j k) [
      | inl less ↦ absurd (apart j k x less second same)
      | inr more ↦ elim (cases_lt k j) [
        | inl less ↦ absurd (apart k j x less first (sym same))
        | inr most ↦ omega arith
      ]
    ]

-- ---- elements of lists that are made of others

-- the first element, or one behind it
pub head_or_tail : {X : Type 0} (x : X) (xs : List X) (y : X) → Contains (x ∷ xs) y → (x ≡ y) ⊎ Contains xs y
head_or_tail x xs y there =
    elim (Contains-append_cases (x ∷ []) xs y there) [ inl first ↦ inl (only x y first) | inr last ↦ inr last ]

pub Contains-head : {X : Type 0} (x : X) (xs : List X) → Contains (x ∷ xs) x
Contains-head x xs = (0, omega arith, refl)

pub Contains-tail : {X : Type 0} (x : X) (xs : List X) (y : X) → Contains xs y → Contains (x ∷ xs) y
Contains-tail x xs y there = (suc there.0, omega (arith, there.1), there.2)

-- an element of a list of images is the image of one
pub from_map : {X Y : Type 0} (f : X → Y) (xs : List X) (y : Y) → Contains (map f xs) y → (x : X) × Contains xs x × (f x ≡ y)
from_map f [] y there = none_in_nil y there
from_map f (x ∷ xs) y there =
    elim (head_or_tail (f x) (map f xs) y there) [
      | inl first ↦ (x, Contains-head x xs, first)
      | inr last ↦ let by = from_map f xs y last in (by.0, Contains-tail x xs by.0 by.1, by.2)
    ]

pub Contains-map : {X Y : Type 0} (f : X → Y) (xs : List X) (x : X) → Contains xs x → Contains (map f xs) (f x)
Contains-map f [] x there = none_in_nil x there
Contains-map f (y ∷ xs) x there =
    elim (head_or_tail y xs x there) [
      | inl first ↦ subst (Contains (map f (y ∷ xs))) (ap f first) (Contains-head (f y) (map f xs))
      | inr last ↦ Contains-tail (f y) (map f xs) (f x) (Contains-map f xs x last)
    ]

-- an element of joined lists is that of one of them
pub from_flat_map :
    {X Y : Type 0} (f : X → List Y) (xs : List X) (y : Y) → Contains (flat_map f xs) y → (x : X) × Contains xs x × Contains (f x) y
from_flat_map f [] y there = none_in_nil y there
from_flat_map f (x ∷ xs) y there =
    elim (Contains-append_cases (f x) (flat_map f xs) y there) [
      | inl first ↦ (x, Contains-head x xs, first)
      | inr last ↦ let by = from_flat_map f xs y last in (by.0, Contains-tail x xs by.0 by.1, by.2)
    ]

pub Contains-flat_map :
    {X Y : Type 0} (f : X → List Y) (xs : List X) (x : X) (y : Y) → Contains xs x → Contains (f x) y → Contains (flat_map f xs) y
Contains-flat_map f [] x y there among = none_in_nil x there
Contains-flat_map f (z ∷ xs) x y there among =
    elim (head_or_tail z xs x there) [
      | inl first ↦ Contains-append_left (f z) (flat_map f xs) y (subst (λ w. Contains (f w) y) (sym first) among)
      | inr last ↦ Contains-append_right (f z) (flat_map f xs) y (Contains-flat_map f xs x y last among)
    ]
