-- Lemmas on sums over a list, of which one element changes
use Rattle.std.proofs.Common.{◌≡◌, ◌≢◌, ◌<◌, ◌≤◌, ◌+◌, ◌⊎◌, ℕ, zero, suc, Bool, true, false, ◌==◌, ◌&&◌, cond, List, [], ◌∷◌, ◌++◌, length, set, refl, sym, ap, inl, inr, ◌∙◌, arith}
use Rattle.std.proofs.lemmas.List.Sums.{sum_by_push, sum_by-append}
use mathlib.Core.Option.{some, some-injective, some-ne-none}
use lib.ListN.{get_elem?}
use Rattle.xs_core.specs.Counts.{one_if}
use Rattle.xs_core.specs.Views.{Signed, signed, entries, under, times}
use Rattle.xs_word_desk.specs.Sums.{total}

module _ {A : Type 0} where
  module _ (g : A → ℕ) where
    pub total-append : (l m : List A) → total g (l ++ m) ≡ total g l + total g m
    total-append [] m = omega arith
    total-append (x ∷ xs) m = omega (arith, total-append xs m)

    -- one element changes: its summand does
    pub total-set :
        (l : List A) (j : ℕ) (v w : A) → get_elem? l j ≡ some v → total g (set l j w) + g v ≡ total g l + g w
    total-set [] j v w at = absurd (some-ne-none v (sym at))
    total-set (x ∷ xs) zero v w at = omega (arith, ap g (some-injective x v at))
    total-set (x ∷ xs) (suc j) v w at = omega (arith, total-set xs j v w at)

    -- a summand is no more than the sum
    pub term_le : (l : List A) (j : ℕ) (v : A) → get_elem? l j ≡ some v → g v ≤ total g l
    term_le [] j v at = absurd (some-ne-none v (sym at))
    term_le (x ∷ xs) zero v at = omega (arith, ap g (some-injective x v at))
    term_le (x ∷ xs) (suc j) v at = omega (arith, term_le xs j v at)

    -- nor are two of them
    pub terms_le :
        (l : List A) (j k : ℕ) (v u : A) → k ≢ j → get_elem? l j ≡ some v → get_elem? l k ≡ some u
        → g v + g u ≤ total g l
    terms_le [] j k v u differ at there = absurd (some-ne-none v (sym at))
    terms_le (x ∷ xs) zero zero v u differ at there = absurd (differ refl)
    terms_le (x ∷ xs) zero (suc k) v u differ at there =
        omega (arith, ap g (some-injective x v at), term_le xs k u there)
    terms_le (x ∷ xs) (suc j) zero v u differ at there =
        omega (arith, ap g (some-injective x u there), term_le xs j v at)
    terms_le (x ∷ xs) (suc j) (suc k) v u differ at there =
        omega (arith, terms_le xs j k v u (λ same. differ (ap suc same)) at there)

    pub total-zero :
        (l : List A) → ((j : ℕ) (v : A) → get_elem? l j ≡ some v → g v ≡ 0) → total g l ≡ 0
    total-zero [] none = refl
    total-zero (x ∷ xs) none =
        let here = none 0 x refl in
        let there = total-zero xs (λ j v at. none (suc j) v at) in
        omega (arith, here, there)

    -- a sum that is not 0 has a summand that is not
    pub total-some :
        (l : List A) → 0 < total g l → (j : ℕ) × (v : A) × (get_elem? l j ≡ some v) × (0 < g v)
    total-some [] some_there = absurd (omega arith)
    total-some (x ∷ xs) some_there =
        elim (cases_zero (g x)) [
          | inl none ↦
              let found = total-some xs (omega (arith, none)) in
              (suc found.0, found.1, found.2, found.3)
          | inr here ↦ (0, x, refl, here)
        ]
      where
        cases_zero : (n : ℕ) → (n ≡ 0) ⊎ (0 < n)
        cases_zero zero = inl refl
        cases_zero (suc n) = inr (omega arith)

    -- where all other summands are 0 the sum is the one that is left
    pub total-single :
        (l : List A) (j : ℕ) (v : A) → get_elem? l j ≡ some v
        → ((i : ℕ) (u : A) → i ≢ j → get_elem? l i ≡ some u → g u ≡ 0) → total g l ≡ g v
    total-single [] j v at none = absurd (some-ne-none v (sym at))
    total-single (x ∷ xs) zero v at none =
        let rest = total-zero xs (λ i u there. none (suc i) u (λ same. absurd (omega arith)) there) in
        omega (arith, ap g (some-injective x v at), rest)
    total-single (x ∷ xs) (suc j) v at none =
        let here = none 0 x (λ same. absurd (omega arith)) refl in
        let rest = total-single xs j v at (λ i u differ there. none (suc i) u (λ same. differ (omega arith)) there) in
        omega (arith, here, rest)

  pub total-plus : (f g : A → ℕ) (l : List A) → total (λ x. f x + g x) l ≡ total f l + total g l
  total-plus f g [] = refl
  total-plus f g (x ∷ xs) = omega (arith, total-plus f g xs)

  pub total-alike : (f g : A → ℕ) (l : List A) → ((j : ℕ) (v : A) → get_elem? l j ≡ some v → f v ≡ g v)
      → total f l ≡ total g l
  total-alike f g [] same = refl
  total-alike f g (x ∷ xs) same =
      omega (arith, same 0 x refl, total-alike f g xs (λ j v at. same (suc j) v at))

  pub total_le : (f g : A → ℕ) (l : List A) → ((j : ℕ) (v : A) → get_elem? l j ≡ some v → f v ≤ g v)
      → total f l ≤ total g l
  total_le f g [] less = omega arith
  total_le f g (x ∷ xs) less =
      omega (arith, less 0 x refl, total_le f g xs (λ j v at. less (suc j) v at))

  -- what one element lacks to its bound the sums lack too
  pub total_gap :
      (f g : A → ℕ) (l : List A) (j : ℕ) (v : A)
      → ((i : ℕ) (u : A) → get_elem? l i ≡ some u → f u ≤ g u) → get_elem? l j ≡ some v
      → total f l + g v ≤ total g l + f v
  total_gap f g [] j v less at = absurd (some-ne-none v (sym at))
  total_gap f g (x ∷ xs) zero v less at =
      let rest = total_le f g xs (λ i u there. less (suc i) u there) in
      omega (arith, ap f (some-injective x v at), ap g (some-injective x v at), rest)
  total_gap f g (x ∷ xs) (suc j) v less at =
      let rest = total_gap f g xs j v (λ i u there. less (suc i) u there) at in
      omega (arith, less 0 x refl, rest)

  -- ---- places of a list in which one element changes

  pub set_here : (l : List A) (j : ℕ) (v w : A) → get_elem? l j ≡ some v → get_elem? (set l j w) j ≡ some w
  set_here [] j v w at = absurd (some-ne-none v (sym at))
  set_here (x ∷ xs) zero v w at = refl
  set_here (x ∷ xs) (suc j) v w at = set_here xs j v w at

  pub set_within : (l : List A) (j : ℕ) (w : A) → j < length l → get_elem? (set l j w) j ≡ some w
  set_within [] j w less = absurd (omega arith)
  set_within (x ∷ xs) zero w less = refl
  set_within (x ∷ xs) (suc j) w less = set_within xs j w (omega arith)

  pub set_else : (l : List A) (i j : ℕ) (w : A) → j ≢ i → get_elem? (set l i w) j ≡ get_elem? l j
  set_else [] i j w differ = refl
  set_else (x ∷ xs) zero zero w differ = absurd (differ refl)
  set_else (x ∷ xs) zero (suc j) w differ = refl
  set_else (x ∷ xs) (suc i) zero w differ = refl
  set_else (x ∷ xs) (suc i) (suc j) w differ = set_else xs i j w (λ same. differ (ap suc same))

  pub at_set :
      (l : List A) (i j : ℕ) (w u : A) → get_elem? (set l i w) j ≡ some u
      → ((j ≡ i) × (w ≡ u)) ⊎ ((j ≢ i) × (get_elem? l j ≡ some u))
  at_set [] i j w u at = absurd (some-ne-none u (sym at))
  at_set (x ∷ xs) zero zero w u at = inl (refl, some-injective w u at)
  at_set (x ∷ xs) zero (suc j) w u at = inr ((λ same. omega arith), at)
  at_set (x ∷ xs) (suc i) zero w u at = inr ((λ same. omega arith), at)
  at_set (x ∷ xs) (suc i) (suc j) w u at =
      elim (at_set xs i j w u at) [
        | inl here ↦ inl (ap suc here.0, here.1)
        | inr there ↦ let differ = there.0 in inr ((λ same. differ (omega arith)), there.1)
      ]

  pub at_snoc :
      (l : List A) (w u : A) (j : ℕ) → get_elem? (l ++ w ∷ []) j ≡ some u
      → (get_elem? l j ≡ some u) ⊎ ((j ≡ length l) × (w ≡ u))
  at_snoc [] w u zero at = inr (refl, some-injective w u at)
  at_snoc [] w u (suc j) at = absurd (some-ne-none u (sym at))
  at_snoc (x ∷ xs) w u zero at = inl at
  at_snoc (x ∷ xs) w u (suc j) at =
      elim (at_snoc xs w u j at) [
        | inl before ↦ inl before
        | inr last ↦ inr (ap suc last.0, last.1)
      ]

-- ---- entries of lists

pub one_if-cond : (b : Bool) → cond b 1 0 ≡ one_if b
one_if-cond true = refl
one_if-cond false = refl

-- one more entry counts for its item alone
pub entries_push :
    (k number item : ℕ) (l : List Signed)
    → entries k (l ++ signed number item ∷ []) ≡ entries k l + one_if (item == k)
entries_push k number item l =
    sum_by_push (λ (s : Signed). cond {A = ℕ} (s.item == k) 1 0) l (signed number item)
    ∙ ap (λ n. entries k l + n) (one_if-cond (item == k))

pub entries_append : (k : ℕ) (l m : List Signed) → entries k (l ++ m) ≡ entries k l + entries k m
entries_append k l m = sum_by-append (λ (s : Signed). cond {A = ℕ} (s.item == k) 1 0) l m

pub under_push :
    (n k number item : ℕ) (l : List Signed)
    → under n k (l ++ signed number item ∷ []) ≡ under n k l + one_if ((number == n) && (item == k))
under_push n k number item l =
    sum_by_push (λ (s : Signed). cond {A = ℕ} ((s.number == n) && (s.item == k)) 1 0) l (signed number item)
    ∙ ap (λ m. under n k l + m) (one_if-cond ((number == n) && (item == k)))

pub under_append : (n k : ℕ) (l m : List Signed) → under n k (l ++ m) ≡ under n k l + under n k m
under_append n k l m = sum_by-append (λ (s : Signed). cond {A = ℕ} ((s.number == n) && (s.item == k)) 1 0) l m

pub times_push : (k item : ℕ) (l : List ℕ) → times k (l ++ item ∷ []) ≡ times k l + one_if (item == k)
times_push k item l =
    sum_by_push (λ (n : ℕ). cond {A = ℕ} (n == k) 1 0) l item ∙ ap (λ n. times k l + n) (one_if-cond (item == k))

pub times_append : (k : ℕ) (l m : List ℕ) → times k (l ++ m) ≡ times k l + times k m
times_append k l m = sum_by-append (λ (n : ℕ). cond {A = ℕ} (n == k) 1 0) l m
