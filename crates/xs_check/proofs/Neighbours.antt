-- Of items in order no two share a row exactly where each ends before the next one begins.
use Rattle.std.proofs.Common.{◌≡◌, ◌<◌, ◌≤◌, ◌+◌, ◌⊎◌, ◌↔◌, ◌∙◌, ◌&&◌, ◌||◌, ℕ, Bool, true, IsTrue, List, AllPairs, length, get_or, ltb, leb, eqb, sym, subst, inl, inr, arith}
use Rattle.std.proofs.lemmas.Bool.{cases_lt}
use Rattle.std.proofs.lemmas.Bool.Decides.{nat_tests}
use Rattle.std.proofs.lemmas.List.{get_or_default}
use Rattle.std.proofs.lemmas.List.Sorted.{IsPermutation-sym}
use Rattle.std.specs.List.{AllAdjacentBelow}
use Rattle.xs_index.specs.Order.{IsInOrder, IsOrderOf}
use Rattle.xs_index.specs.Apart.{ShareNoRow}
use Rattle.xs_check.specs.Shared.{EndsBefore}
use Rattle.xs_check.proofs.Pairs.{AllPairs-permutation}

no_later : (g h f e : ℕ) → (ltb g h || (eqb g h && leb f e)) ≡ true → (g < h) ⊎ ((g ≡ h) × (f ≤ e))
no_later g h f e begun = grind (arith, nat_tests)

module _ {A : Type 0} (group first last : A → ℕ) (apart : A → A → Type 0) (told : (a b : A) → apart a b ↔ ShareNoRow group first last a b) where
  apart_back : (a b : A) → apart a b → apart b a
  unfolding ShareNoRow
  apart_back a b h =
      (told b a).1
      (λ same row after_b before_b after_a before_a. (told a b).0 h (sym same) row after_a before_a after_b before_b)

  module _ (xs : List A) (order : IsInOrder group first xs) where
    in_order : (i j : ℕ) (d : A) → i ≤ j → j < length xs
        → (group (get_or xs i d) < group (get_or xs j d)) ⊎ ((group (get_or xs i d) ≡ group (get_or xs j d)) × (first (get_or xs i d) ≤ first (get_or xs j d)))
    in_order i j d least below =
        no_later (group (get_or xs i d)) (group (get_or xs j d)) (first (get_or xs i d)) (first (get_or xs j d)) (order i j d least below)

    pub apart_by_neighbours : AllAdjacentBelow (EndsBefore group first last) xs (length xs) → AllPairs apart xs
    unfolding ShareNoRow
    apart_by_neighbours ends i j d less below =
        let next : EndsBefore group first last (get_or xs i d) (get_or xs (i + 1) d) = ends i d (omega arith) in
        let later = in_order (i + 1) j d (omega arith) below in
        (told (get_or xs i d) (get_or xs j d)).1
        (λ same row after_a before_a after_b before_b.
        elim next [
          | inl earlier ↦ elim later [ inl other ↦ omega arith | inr (here, from) ↦ omega arith ]
          | inr (alike, ended) ↦ elim later [ inl other ↦ omega arith | inr (here, from) ↦ omega arith ]
        ])

    pub shared_by_neighbours : (i : ℕ) (a b : A) → i + 1 < length xs → a ≡ get_or xs i a → b ≡ get_or xs (i + 1) b
        → (EndsBefore group first last a b → ⊥) → first b ≤ last b → AllPairs apart xs → ⊥
    unfolding ShareNoRow
    shared_by_neighbours i a b below a_is b_is late span all =
        let at_a : get_or xs i b ≡ a = get_or_default xs i b a (omega arith) ∙ sym a_is in
        let pair : ShareNoRow group first last a b =
        (told a b).0
        (subst (λ (x : A). apart x b) at_a (subst (λ (y : A). apart (get_or xs i b) y) (sym b_is) (all i (i + 1) b (omega arith) below))) in
        let later : (group a < group b) ⊎ ((group a ≡ group b) × (first a ≤ first b)) =
        subst (λ (x : A). (group x < group b) ⊎ ((group x ≡ group b) × (first x ≤ first b))) at_a
        (subst (λ (y : A). (group (get_or xs i b) < group y) ⊎ ((group (get_or xs i b) ≡ group y) × (first (get_or xs i b) ≤ first y))) (sym b_is)
        (in_order i (i + 1) b (omega arith) below)) in
        elim later [
          | inl earlier ↦ late (inl earlier)
          | inr (same, from) ↦
              elim (cases_lt (last a) (first b)) [
                | inl ended ↦ late (inr (same, ended))
                | inr shared ↦ pair same (first b) from shared (omega arith) span
              ]
        ]

  -- items stand apart where they do so in order
  pub apart_as_in_order : (xs sorted : List A) → IsOrderOf group first xs sorted → AllPairs apart sorted → AllPairs apart xs
  apart_as_in_order xs sorted is pairs = AllPairs-permutation apart apart_back sorted xs (IsPermutation-sym xs sorted is.moved) pairs

  pub apart_by_order : (xs sorted : List A) (b : Bool) → IsOrderOf group first xs sorted → (IsTrue b ↔ AllPairs apart sorted) → IsTrue b ↔ AllPairs apart xs
  apart_by_order xs sorted b is tests = (
    λ yes. apart_as_in_order xs sorted is (tests.0 yes),
    λ h. tests.1 (AllPairs-permutation apart apart_back xs sorted is.moved h),
  )
