use Rattle.std.proofs.Common.{◌≡◌, ◌≢◌, ◌<◌, ◌⊎◌, ℕ, List, AllPairs, length, get_or, take, refl, sym, subst, inl, inr, arith}
use Rattle.std.proofs.lemmas.Bool.{cases_lt, cases_eq}
use Rattle.std.proofs.lemmas.List.{get_or-take, length-take}
use Rattle.std.proofs.lemmas.List.Edits.{swapped_from_swap, length-swap}
use Rattle.std.proofs.lemmas.List.Sorted.{IsPermutation-keeps}
use Rattle.std.specs.List.{swap}
use Rattle.std.specs.List.Sorted.{IsPermutation}

-- ---- pairs of a list in another order

module _ {X : Type 0} (R : X → X → Type 0) (back : (a b : X) → R a b → R b a) where
  abbrev AnyTwo : List X → Type 0
  AnyTwo xs = (i j : ℕ) (d : X) → i ≢ j → i < length xs → j < length xs → R (get_or xs i d) (get_or xs j d)

  any_two : (xs : List X) → AllPairs R xs → AnyTwo xs
  any_two xs h i j d differ i_below j_below =
      elim (cases_lt i j) [
        | inl less ↦ h i j d less j_below
        | inr most ↦ back (get_or xs j d) (get_or xs i d) (h j i d (omega arith) i_below)
      ]

  -- where an element stood before two changed places
  stood : (xs : List X) (a b i : ℕ) (d : X) → a < length xs → b < length xs → i < length xs
      → (k : ℕ)
      × (k < length xs)
      × (get_or (swap xs a b) i d ≡ get_or xs k d)
      × (((i ≡ a) × (k ≡ b)) ⊎ (((i ≡ b) × (k ≡ a)) ⊎ ((i ≢ a) × (i ≢ b) × (k ≡ i))))
  stood xs a b i d a_below b_below below =
      let s = swapped_from_swap xs (swap xs a b) a b d a_below b_below refl in
      elim (cases_eq i a) [
        | inl at_a ↦ (b, b_below, subst (λ (n : ℕ). get_or (swap xs a b) n d ≡ get_or xs b d) (sym at_a) s.0, inl (at_a, refl))
        | inr not_a ↦
            elim (cases_eq i b) [
              | inl at_b ↦ (a, a_below, subst (λ (n : ℕ). get_or (swap xs a b) n d ≡ get_or xs a d) (sym at_b) s.1, inr (inl (at_b, refl)))
              | inr not_b ↦ (i, below, s.2 i not_a not_b, inr (inr (not_a, not_b, refl)))
            ]
      ]

  any_two_swapped : (xs : List X) (a b : ℕ) → a < length xs → b < length xs → AnyTwo xs → AnyTwo (swap xs a b)
  any_two_swapped xs a b a_below b_below h i j d differ i_below j_below =
      let (k, k_below, k_is, k_where) = stood xs a b i d a_below b_below (rw (← length-swap xs a b) i_below) in
      let (l, l_below, l_is, l_where) = stood xs a b j d a_below b_below (rw (← length-swap xs a b) j_below) in
      let apart : k ≢ l = λ same. grind arith in
      subst (λ (x : X). R x (get_or (swap xs a b) j d)) (sym k_is)
      (subst (λ (y : X). R (get_or xs k d) y) (sym l_is) (h k l d apart k_below l_below))

  pub AllPairs-permutation : (xs ys : List X) → IsPermutation xs ys → AllPairs R xs → AllPairs R ys
  AllPairs-permutation xs ys moved h =
      let two = IsPermutation-keeps xs AnyTwo (any_two xs h) (λ l a b a_below b_below. any_two_swapped l a b a_below b_below) ys moved in
      λ i j d less below. two i j d (omega arith) (omega arith) below

-- ---- pairs of a front

pub AllPairs-take : {X : Type 0} (R : X → X → Type 0) (n : ℕ) (xs : List X) → AllPairs R xs → AllPairs R (take n xs)
AllPairs-take R n xs h i j d less below =
    let few = length-take n xs in
    let in_front : j < n = omega arith in
    let in_list : j < length xs = omega arith in
    rw (get_or-take n xs i d (omega arith), get_or-take n xs j d in_front) (h i j d less in_list)
