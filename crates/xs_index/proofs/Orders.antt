-- Searching in lists in order
use Rattle.std.proofs.Common.{◌≡◌, ◌≤◌, ◌<◌, ◌+◌, ◌-◌, ℕ, zero, suc, Bool, true, false, ◌&&◌, ◌||◌, eqb, ltb, leb, ◌⊎◌, inl, inr, List, All, length, get_or, sym, ap, ◌∙◌, subst, arith}
use Rattle.std.proofs.lemmas.Bool.{cases_lt}
use Rattle.std.proofs.lemmas.Bool.Decides.{nat_tests}
use Rattle.std.proofs.lemmas.List.{get_or_default}
use Rattle.std.specs.List.Sorted.{IsNonDecreasingBy, IsPartitionedBy}
use Rattle.xs_index.specs.Order.{has_begun, IsInOrder, IsLast, IsNext}

abbrev begun : ℕ → ℕ → ℕ → ℕ → Bool
begun g r h s = ltb g h || (eqb g h && leb r s)

begun_group : (g r h s : ℕ) → begun g r h s ≡ true → g ≤ h
begun_group g r h s is = grind (arith, nat_tests)

begun_row : (g r h s : ℕ) → begun g r h s ≡ true → g ≡ h → r ≤ s
begun_row g r h s is same = grind (arith, nat_tests)

not_begun_group : (g r h s : ℕ) → begun g r h s ≡ false → h ≤ g
not_begun_group g r h s is = grind (arith, nat_tests)

not_begun_row : (g r h s : ℕ) → begun g r h s ≡ false → g ≡ h → s < r
not_begun_row g r h s is same = grind (arith, nat_tests)

begun_from : (g r h s : ℕ) → g ≤ h → (g ≡ h → r ≤ s) → begun g r h s ≡ true
begun_from g r h s groups rows = grind (arith, nat_tests)

begun_before : (g r g2 r2 h s : ℕ) → begun g r g2 r2 ≡ true → begun g2 r2 h s ≡ true → begun g r h s ≡ true
begun_before g r g2 r2 h s first second = grind (arith, nat_tests)

module _ {K : Type 0} (group row : K → ℕ) where
  -- what has begun stands before what has not
  pub partitioned : (xs : List K) (g r : ℕ) → IsInOrder group row xs → IsPartitionedBy (has_begun group row g r) xs
  partitioned xs g r order i j d le below last =
      begun_before (group (get_or xs i d)) (row (get_or xs i d)) (group (get_or xs j d)) (row (get_or xs j d)) g r (order i j d le below) last

  -- groups rise, and rows where neighbours have one group
  rises : (xs : List K) → IsNonDecreasingBy group xs
      → ((k : ℕ) (d : K) → k + 1 < length xs → group (get_or xs k d) ≡ group (get_or xs (k + 1) d) → row (get_or xs k d) ≤ row (get_or xs (k + 1) d))
      → (n i : ℕ) (d : K) → i + n < length xs → group (get_or xs i d) ≡ group (get_or xs (i + n) d) → row (get_or xs i d) ≤ row (get_or xs (i + n) d)
  rises xs groups rows zero i d below same = let e : i ≡ i + 0 = omega arith in subst (λ (j : ℕ). row (get_or xs i d) ≤ row (get_or xs j d)) e (omega arith)
  rises xs groups rows (suc n) i d below same =
      let next : (i + n) + 1 ≡ i + suc n = omega arith in
      let last = groups (i + n) (i + suc n) d (omega arith) below in
      let first = groups i (i + n) d (omega arith) (omega arith) in
      let before = rises xs groups rows n i d (omega arith) (omega arith) in
      let step = rows (i + n) d (omega arith) in
      let row_step : row (get_or xs (i + n) d) ≤ row (get_or xs (i + suc n) d) =
      subst (λ (j : ℕ). row (get_or xs (i + n) d) ≤ row (get_or xs j d)) next
      (step (subst (λ (j : ℕ). group (get_or xs (i + n) d) ≡ group (get_or xs j d)) (sym next) (omega arith)))
      in
      omega arith

  pub in_order : (xs : List K) → IsNonDecreasingBy group xs
      → ((k : ℕ) (d : K) → k + 1 < length xs → group (get_or xs k d) ≡ group (get_or xs (k + 1) d) → row (get_or xs k d) ≤ row (get_or xs (k + 1) d))
      → IsInOrder group row xs
  in_order xs groups rows i j d le below =
      let at : i + (j - i) ≡ j = omega arith in
      let same : group (get_or xs i d) ≡ group (get_or xs (i + (j - i)) d) → row (get_or xs i d) ≤ row (get_or xs (i + (j - i)) d) =
      rises xs groups rows (j - i) i d (omega arith)
      in
      begun_from (group (get_or xs i d)) (row (get_or xs i d)) (group (get_or xs j d)) (row (get_or xs j d)) (groups i j d le below)
      (subst (λ (m : ℕ). group (get_or xs i d) ≡ group (get_or xs m d) → row (get_or xs i d) ≤ row (get_or xs m d)) at same)

  module _ (xs : List K) (g r n : ℕ) (order : IsInOrder group row xs) (within : n ≤ length xs)
      (before : (k : ℕ) (d : K) → k < n → has_begun group row g r (get_or xs k d) ≡ true)
      (after : (k : ℕ) (d : K) → n ≤ k → k < length xs → has_begun group row g r (get_or xs k d) ≡ false) where
    pub last_other : (a : K) → 0 < n → a ≡ get_or xs (n - 1) a → (group a ≡ g → ⊥) → All (λ k. group k ≡ g → r < row k) xs
    last_other a some is other k d below same =
        elim (cases_lt k n) [
          | inl early ↦
              let at : get_or xs (n - 1) d ≡ a = get_or_default xs (n - 1) d a (omega arith) ∙ sym is in
              let up = begun_group (group (get_or xs k d)) (row (get_or xs k d)) (group (get_or xs (n - 1) d)) (row (get_or xs (n - 1) d))
              (order k (n - 1) d (omega arith) (omega arith)) in
              let top = begun_group (group (get_or xs (n - 1) d)) (row (get_or xs (n - 1) d)) g r (before (n - 1) d (omega arith)) in
              absurd (other (ap group (sym at) ∙ (let e : group (get_or xs (n - 1) d) ≡ g = omega arith in e)))
          | inr late ↦ not_begun_row (group (get_or xs k d)) (row (get_or xs k d)) g r (after k d late below) same
        ]

    pub last_is : (a : K) → 0 < n → a ≡ get_or xs (n - 1) a → group a ≡ g → IsLast group row g r xs a
    last_is a some is same =
        record {
          among = (n - 1, omega arith, sym is);
          grouped = same;
          begun =
              begun_row (group a) (row a) g r (subst (λ (k : K). has_begun group row g r k ≡ true) (sym is) (before (n - 1) a (omega arith))) same;
          last = λ k d below grouped early. up k d below grouped early (cases_lt k n);
        }
      where
        up : (k : ℕ) (d : K) → k < length xs → group (get_or xs k d) ≡ g → row (get_or xs k d) ≤ r → (k < n) ⊎ (n ≤ k) → row (get_or xs k d) ≤ row a
        up k d below grouped early (inl front) =
            let at : get_or xs (n - 1) d ≡ a = get_or_default xs (n - 1) d a (omega arith) ∙ sym is in
            begun_row (group (get_or xs k d)) (row (get_or xs k d)) (group a) (row a)
            (subst (λ (x : K). has_begun group row (group x) (row x) (get_or xs k d) ≡ true) at (order k (n - 1) d (omega arith) (omega arith)))
            (grouped ∙ sym same)
        up k d below grouped early (inr back) =
            let late = not_begun_row (group (get_or xs k d)) (row (get_or xs k d)) g r (after k d back below) grouped in
            absurd (omega arith)

    pub next_other : (b : K) → n < length xs → b ≡ get_or xs n b → (group b ≡ g → ⊥) → All (λ k. group k ≡ g → row k ≤ r) xs
    next_other b some is other k d below same =
        elim (cases_lt k n) [
          | inl early ↦ begun_row (group (get_or xs k d)) (row (get_or xs k d)) g r (before k d early) same
          | inr late ↦
              let at : get_or xs n d ≡ b = get_or_default xs n d b some ∙ sym is in
              let up = begun_group (group (get_or xs n d)) (row (get_or xs n d)) (group (get_or xs k d)) (row (get_or xs k d)) (order n k d late below) in
              let from = not_begun_group (group (get_or xs n d)) (row (get_or xs n d)) g r (after n d (omega arith) some) in
              absurd (other (ap group (sym at) ∙ (let e : group (get_or xs n d) ≡ g = omega arith in e)))
        ]

    pub next_is : (b : K) → n < length xs → b ≡ get_or xs n b → group b ≡ g → IsNext group row g r xs b
    next_is b some is same =
        record {
          among = (n, some, sym is);
          grouped = same;
          later =
              not_begun_row (group b) (row b) g r (subst (λ (k : K). has_begun group row g r k ≡ false) (sym is) (after n b (omega arith) some)) same;
          first = λ k d below grouped late. up k d below grouped late (cases_lt k n);
        }
      where
        up : (k : ℕ) (d : K) → k < length xs → group (get_or xs k d) ≡ g → r < row (get_or xs k d) → (k < n) ⊎ (n ≤ k) → row b ≤ row (get_or xs k d)
        up k d below grouped late (inl front) =
            let early = begun_row (group (get_or xs k d)) (row (get_or xs k d)) g r (before k d front) grouped in
            absurd (omega arith)
        up k d below grouped late (inr back) =
            let at : get_or xs n d ≡ b = get_or_default xs n d b some ∙ sym is in
            begun_row (group b) (row b) (group (get_or xs k d)) (row (get_or xs k d))
            (subst (λ (x : K). has_begun group row (group (get_or xs k d)) (row (get_or xs k d)) x ≡ true) at (order n k d back below))
            (same ∙ sym grouped)
