use Rattle.std.proofs.Common.{◌<◌, ◌+◌, ℕ, Bool, List, [], ◌∷◌, Option, Some, None, Result, Ok, Err, AllPairs, All, Decides, length, get_or, take, refl, sym, subst, arith}
use Rattle.std.specs.List.{list_all}
use Rattle.std.proofs.lemmas.List.{get_or_default, get_or-take, length-take, take_more}
use Rattle.std.proofs.lemmas.List.Quantifiers.{all_pairs_push}
use Rattle.xs_fault.specs.declared.code.SceneCode.TheVariants as code
use Rattle.xs_fault.specs.declared.fault.FieldFault.{FieldFault}
use Rattle.xs_fault.specs.declared.fault.FieldFault.TheVariants as errors
use Rattle.xs_check.specs.Finding.{Finds, IsFaultAtFirst}
use Rattle.xs_check.specs.Passes.{apart_fault}
use Rattle.xs_check.specs.Shared.{IsFirstShared}
use Rattle.xs_base.specs.First.{IsFirstWithout}
use Rattle.xs_check.proofs.Findings.{first_told}
use Rattle.xs_check.proofs.Tests.{all_decided}
use Rattle.xs_check.proofs.Pairs.{AllPairs-take}

module _ {A : Type 0} (Apart : A → A → Type 0) (xs : List A) where
  -- in a front that stands apart each element does so from the earlier ones
  earlier_apart : (n i : ℕ) (d : A) → AllPairs Apart (take n xs) → i < n → i < length xs → All (λ e. Apart e (get_or xs i d)) (take i xs)
  earlier_apart n i d apart in_front below k e before =
      let few = length-take i xs in
      let less : k < i = omega arith in
      let long = length-take n xs in
      let there : i < length (take n xs) = omega arith in
      let pair = apart k i e less there in
      let first : Apart (get_or xs k e) (get_or (take n xs) i e) =
      subst (λ (x : A). Apart x (get_or (take n xs) i e)) (get_or-take n xs k e (omega arith)) pair in
      let both : Apart (get_or xs k e) (get_or xs i e) =
      subst (λ (x : A). Apart (get_or xs k e) x) (get_or-take n xs i e in_front) first in
      subst (λ (x : A). Apart x (get_or xs i d)) (sym (get_or-take i xs k e less))
      (subst (λ (x : A). Apart (get_or xs k e) x) (get_or_default xs i e d below) both)

  one_more_apart : (i : ℕ) (d : A) → AllPairs Apart (take i xs) → i < length xs → All (λ e. Apart e (get_or xs i d)) (take i xs)
      → AllPairs Apart (take (i + 1) xs)
  one_more_apart i d apart below all =
      subst (AllPairs Apart) (sym (take_more xs i d below)) (all_pairs_push Apart (take i xs) (get_or xs i d) apart all)

  first_without : (first : Option ℕ) (d : A) → IsFirstShared Apart xs first
      → IsFirstWithout (λ i. All (λ e. Apart e (get_or xs i d)) (take i xs)) (length xs) first
  first_without None d apart = λ i below. earlier_apart (length xs) i d (AllPairs-take Apart (length xs) xs apart) below below
  first_without (Some i) d front = (
    front.inside,
    λ all. front.shared (one_more_apart i d front.apart front.inside all),
    λ j less. let inside = front.inside in earlier_apart i j d front.apart less (omega arith),
  )

module _ {A : Type 0} (Apart : A → A → Type 0) (apart : A → A → Bool) (decides : (a b : A) → Decides (apart a b) (Apart a b)) where
  -- whether an element stands apart from each earlier one is tested
  pub earlier_decided : (xs : List A) (d e : A) (i : ℕ) → i < length xs
      → Decides (list_all (λ earlier. apart earlier (get_or xs i e)) (take i xs)) (All (λ earlier. Apart earlier (get_or xs i d)) (take i xs))
  earlier_decided xs d e i below =
      rw (get_or_default xs i e d below)
      (all_decided (λ earlier. apart earlier (get_or xs i d)) (λ earlier. Apart earlier (get_or xs i d)) (λ earlier. decides earlier (get_or xs i d)) (take i xs))

  -- the fault at the first element that does not stand apart from each earlier one
  pub shared_told : (at : List ℕ) (xs : List A) (first : Option ℕ) (r : Result (Unit {0}) FieldFault)
      → IsFirstShared Apart xs first → IsFaultAtFirst code.Overlap at first r → Finds r (apart_fault apart at xs)
  unfolding apart_fault
  shared_told at [] None (Ok u) h told = refl
  shared_told at [] None (Err errors.Memory) h told = tt
  shared_told at [] None (Err (errors.Fault fault)) h (i, is, fault_is) = absurd (cc)
  shared_told at [] (Some i) r front told = absurd (let inside = front.inside in omega arith)
  shared_told at (x ∷ rest) first r h told =
      let xs = x ∷ rest in
      first_told (λ i. All (λ e. Apart e (get_or xs i x)) (take i xs)) (λ i y. list_all (λ earlier. apart earlier y) (take i xs)) code.Overlap at xs
      (λ i e below. earlier_decided xs x e i below) first r (first_without Apart xs first x h) told
