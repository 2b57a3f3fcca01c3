-- What holds of each fault that a check can find.
use Rattle.std.proofs.Common.{◌≡◌, ◌+◌, ◌<◌, ◌≤◌, ℕ, suc, Bool, true, false, ltb, leb, List, [], ◌∷◌, Option, Some, None, length, refl, subst, arith}
use Rattle.std.proofs.lemmas.Bool.{ltb-false, leb-false}
use Rattle.xs_fault.specs.Paths.{index_at}
use Rattle.xs_fault.specs.declared.code.SceneCode.{SceneCode}
use Rattle.xs_fault.specs.declared.code.SceneCode.TheVariants as code
use Rattle.xs_fault.specs.declared.fault.SceneFault.{SceneFault}
use Rattle.xs_check.specs.Finding.{Finding, unless, or_else, each_from, in_list, if_there}
use Rattle.xs_check.specs.Passes.{length_fault, naming_fault}
use Rattle.xs_check.specs.Told.{IsAt}

-- a fault that is found has this code, and its path is of one kind
abbrev pub Only : SceneCode → (List ℕ → Type 0) → Finding → Type 0
Only code Wrong found = (fault : SceneFault) → found ≡ Some fault → (fault.code ≡ code) × Wrong fault.path

module _ (code : SceneCode) (Wrong : List ℕ → Type 0) where
  pub only_nothing : Only code Wrong None
  only_nothing fault found = absurd (cc)

  pub only_unless : (at : List ℕ) (b : Bool) → (b ≡ false → Wrong at) → Only code Wrong (unless code at b)
  only_unless at true is fault found = absurd (cc)
  only_unless at false is fault found =
      let same : record { code = code; path = at } ≡ fault = cc in
      subst (λ (fault : SceneFault). (fault.code ≡ code) × Wrong fault.path) same (refl, is refl)

  -- the second check is made where the first one finds nothing
  pub only_then : (first second : Finding) → Only code Wrong first → (first ≡ None → Only code Wrong second) → Only code Wrong (or_else first second)
  only_then None second first_only second_only fault found = second_only refl fault found
  only_then (Some here) second first_only second_only fault found = first_only fault found

  pub only_else : (first second : Finding) → Only code Wrong first → Only code Wrong second → Only code Wrong (or_else first second)
  only_else first second first_only second_only = only_then first second first_only (λ none. second_only)

  pub only_each : {A : Type 0} (F : ℕ → A → Finding) (xs : List A) (k : ℕ) → ((n i : ℕ) (x : A) → n ≡ k + i → IsAt xs i x → Only code Wrong (F n x))
      → Only code Wrong (each_from F k xs)
  only_each F [] k only = only_nothing
  only_each F (x ∷ xs) k only =
      only_else (F k x) (each_from F (k + 1) xs) (only k 0 x (omega arith) refl)
      (only_each F xs (k + 1) (λ n i y is at. only n (suc i) y (omega arith) at))

  pub only_in_list : {A : Type 0} (F : List ℕ → A → Finding) (at : List ℕ) (xs : List A)
      → ((i : ℕ) (x : A) → IsAt xs i x → Only code Wrong (F (index_at at i) x)) → Only code Wrong (in_list at F xs)
  unfolding in_list
  only_in_list F at xs only =
      only_each (λ i x. F (index_at at i) x) xs 0
      (λ n i x is here.
      let same : i ≡ n = omega arith in
      subst (λ (m : ℕ). Only code Wrong (F (index_at at m) x)) same (only i x here))

  pub only_if_there : {A : Type 0} (F : A → Finding) (x : Option A) → ((y : A) → x ≡ Some y → Only code Wrong (F y)) → Only code Wrong (if_there F x)
  only_if_there F None only = only_nothing
  only_if_there F (Some x) only = only x refl

-- a list that is too long
pub only_long : {A : Type 0} (Wrong : List ℕ → Type 0) (limit : ℕ) (at : List ℕ) (xs : List A) → (limit < length xs → Wrong at)
    → Only code.TooMany Wrong (length_fault limit at xs)
only_long Wrong limit at xs is = only_unless code.TooMany Wrong at (leb (length xs) limit) (λ no. is (leb-false (length xs) limit no))

-- a number that names nothing
pub only_lacking : {A : Type 0} (Wrong : List ℕ → Type 0) (at : List ℕ) (things : List A) (number : ℕ) → (length things ≤ number → Wrong at)
    → Only code.NoSuchReference Wrong (naming_fault at things number)
only_lacking Wrong at things number is =
    only_unless code.NoSuchReference Wrong at (ltb number (length things)) (λ no. is (ltb-false number (length things) no))
