-- Lists of keys that get one key more, and keys that compare as equal
use Rattle.std.proofs.Common.{◌≡◌, ◌⊎◌, ◌<◌, ◌≤◌, ◌+◌, zero, suc, ◌^◌, ℕ, Bool, true, false, ◌||◌, if◌then◌else◌, List, [], ◌∷◌, ◌++◌, Some, length, slice_get, refl, sym, ap, ◌∙◌, subst, inl, inr, arith, rules}
use Rattle.std.specs.List.{list_any}
use Rattle.std.proofs.lemmas.List.{length_push}
use Rattle.std.proofs.lemmas.Option.{slice_get_within}
use Rattle.indexmap.specs.IndexSet.{insert_key}
use Rattle.xs_alias.specs.declared.key.Key.{Key}
use Rattle.xs_alias.specs.contracts.key.KeyPartialEq.TheImpl as equality
use Rattle.xs_alias.specs.Numbers.{IsOver, IsNumbering, Numbers}

abbrev pub same_key : Key → Key → Bool
same_key = (equality.eq-value).it

exact : (x y : Key) → same_key x y ≡ true → x ≡ y
exact x y same = search rules

same : (k : Key) → same_key k k ≡ true
same k = search rules

-- an element of a list that got one more stood there before, or is the last one
before_or_last :
    (xs : List Key) (y : Key) (n : ℕ) (x : Key) → slice_get (xs ++ y ∷ []) n ≡ Some x
    → (slice_get xs n ≡ Some x) ⊎ ((n ≡ length xs) × (y ≡ x))
before_or_last [] y zero x at = inr (refl, cc)
before_or_last [] y (suc n) x at = cc
before_or_last (z ∷ xs) y zero x at = inl at
before_or_last (z ∷ xs) y (suc n) x at =
    elim (before_or_last xs y n x at) [ inl old ↦ inl old | inr last ↦ inr (ap (λ m. suc m) last.0, last.1) ]

-- a key that no other is equal to doesn't stand in the list
absent : (xs : List Key) (k : Key) (n : ℕ) → list_any (same_key k) xs ≡ false → slice_get xs n ≡ Some k → ⊥
absent [] k n none at = cc
absent (x ∷ xs) k zero none at =
    let here : x ≡ k = cc in
    let passes : same_key k x ≡ true = ap (same_key k) here ∙ same k in
    let found : (same_key k x || list_any (same_key k) xs) ≡ true = ap (λ b. b || list_any (same_key k) xs) passes in
    cc
absent (x ∷ xs) k (suc n) none at =
    elim (same_key k x) as (λ b. (b || list_any (same_key k) xs) ≡ false → ⊥) [
      | true ↦ λ no. cc
      | false ↦ λ rest. absent xs k n rest at
    ] none

-- a numbering with one new key more
more_numbers :
    (xs : List Key) (k : Key) → list_any (same_key k) xs ≡ false → IsNumbering xs → IsOver (length xs) k
    → length xs + 1 < 2 ^ 32 → IsNumbering (xs ++ k ∷ [])
more_numbers xs k none old over room =
    let longer : length (xs ++ k ∷ []) ≡ length xs + 1 = length_push xs k in
    record {
      founded =
          λ n x at. elim (before_or_last xs k n x at) [
            | inl before ↦ old.founded n x before
            | inr last ↦ subst (λ y. IsOver n y) last.1 (subst (λ m. IsOver m k) (sym last.0) over)
          ];
      distinct =
          λ m n x here there. elim (before_or_last xs k m x here) [
            | inl before ↦ elim (before_or_last xs k n x there) [
              | inl also ↦ old.distinct m n x before also
              | inr last ↦ absurd (absent xs k m none (before ∙ ap (λ y. Some y) (sym last.1)))
            ]
            | inr first ↦ elim (before_or_last xs k n x there) [
              | inl also ↦ absurd (absent xs k n none (also ∙ ap (λ y. Some y) (sym first.1)))
              | inr last ↦ first.0 ∙ sym last.0
            ]
          ];
      few = omega (arith, longer);
    }

-- a set with a key put in is a numbering, and the key has its number there
pub record IsPut (old new : List Key) (k : Key) (n : ℕ) : Type 0 where
  pub numbering : IsNumbering new
  pub number : Numbers old new k n
  pub at_least : length old ≤ length new
  pub at_most : length new ≤ length old + 1

put_by :
    (old new : List Key) (k : Key) (n : ℕ) (b : Bool) → list_any (same_key k) old ≡ b → IsNumbering old
    → IsOver (length old) k → length old + 1 < 2 ^ 32 → new ≡ (if b then old else (old ++ k ∷ []))
    → slice_get new n ≡ Some k → IsPut old new k n
put_by old new k n true found numbering over room is here =
    let long : length new ≡ length old = ap length is in
    record {
      numbering = subst IsNumbering (sym is) numbering;
      number = record { within = slice_get_within new n k here; has = here; grown = inl is };
      at_least = omega arith;
      at_most = omega arith;
    }
put_by old new k n false none numbering over room is here =
    let place : n ≡ length old = elim (before_or_last old k n k (subst (λ ks. slice_get ks n ≡ Some k) is here)) [
      | inl before ↦ absurd (absent old k n none before)
      | inr last ↦ last.0
    ] in
    let long : length new ≡ length old + 1 = ap length is ∙ length_push old k in
    record {
      numbering = subst IsNumbering (sym is) (more_numbers old k none numbering over room);
      number = record { within = slice_get_within new n k here; has = here; grown = inr (is, place) };
      at_least = omega arith;
      at_most = omega arith;
    }

pub put :
    (held old new : List Key) (k : Key) (n : ℕ) → held ≡ old → IsNumbering held → IsOver (length old) k
    → length old + 1 < 2 ^ 32 → new ≡ insert_key same_key held k
    → (x : Key) × (slice_get new n ≡ Some x) × (same_key k x ≡ true) → IsPut old new k n
put held old new k n seen numbering over room is stored =
    put_by old new k n (list_any (same_key k) old) refl (subst IsNumbering seen numbering) over room
    (is ∙ ap (λ ks. insert_key same_key ks k) seen) (stored.1 ∙ ap (λ y. Some y) (sym (exact k stored.0 stored.2)))
