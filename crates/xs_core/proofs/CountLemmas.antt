-- Lemmas on how many numbers pass a test
use Rattle.std.proofs.Common.{◌≡◌, ◌≢◌, ◌<◌, ◌≤◌, ◌+◌, ℕ, zero, suc, Bool, true, false, List, length, take, get_or, count_by, refl, sym, ap, ap₂, ◌∙◌, inl, inr, arith, add-one}
use Rattle.std.proofs.lemmas.Bool.{cases_eq, cases_Bool}
use Rattle.std.proofs.lemmas.List.Sums.{count_by_more_yes, count_by_more_no}
use Rattle.xs_core.specs.Counts.{one_if, how_many}

pub one_if-le : (b : Bool) → one_if b ≤ 1
one_if-le true = omega arith
one_if-le false = omega arith

-- two tests that agree are passed equally often
pub how_many-alike : (n : ℕ) (p q : ℕ → Bool) → ((i : ℕ) → i < n → p i ≡ q i) → how_many n p ≡ how_many n q
unfolding how_many
how_many-alike zero p q alike = refl
how_many-alike (suc n) p q alike =
    ap₂ (λ a b. a + one_if b) (how_many-alike n p q (λ i lt. alike i (omega arith))) (alike n (omega arith))

-- two tests that agree but at one number
pub how_many-but_one :
    (n j : ℕ) (p q : ℕ → Bool) → j < n → ((i : ℕ) → i < n → i ≢ j → p i ≡ q i)
    → how_many n q + one_if (p j) ≡ how_many n p + one_if (q j)
unfolding how_many
how_many-but_one zero j p q lt others = absurd (omega arith)
how_many-but_one (suc n) j p q lt others =
    elim (cases_eq n j) [
      | inl same ↦
          let before = how_many-alike n p q (λ i less. others i (omega arith) (omega arith)) in
          let here = ap (λ m. one_if (p m)) same in
          let there = ap (λ m. one_if (q m)) same in
          omega (arith, before, here, there)
      | inr differ ↦
          let before = how_many-but_one n j p q (omega arith) (λ i less. others i (omega arith)) in
          let here = ap one_if (others n (omega arith) differ) in
          omega (arith, before, here)
    ]

pub how_many-none : (n : ℕ) (p : ℕ → Bool) → ((i : ℕ) → i < n → p i ≡ false) → how_many n p ≡ 0
unfolding how_many
how_many-none zero p none = refl
how_many-none (suc n) p none =
    let before = how_many-none n p (λ i less. none i (omega arith)) in
    let here : one_if (p n) ≡ 0 = ap one_if (none n (omega arith)) in
    omega (arith, before, here)

-- where one passes there are some
pub how_many-some : (n i : ℕ) (p : ℕ → Bool) → i < n → p i ≡ true → 0 < how_many n p
unfolding how_many
how_many-some zero i p less passes = absurd (omega arith)
how_many-some (suc n) i p less passes =
    elim (cases_eq n i) [
      | inl same ↦ let here : one_if (p n) ≡ 1 = ap (λ m. one_if (p m)) same ∙ ap one_if passes in omega (arith, here)
      | inr differ ↦ omega (arith, how_many-some n i p (omega arith) passes)
    ]

-- where there are some, one passes
pub how_many-found : (n : ℕ) (p : ℕ → Bool) → 0 < how_many n p → (i : ℕ) × (i < n) × (p i ≡ true)
unfolding how_many
how_many-found zero p some = absurd (omega arith)
how_many-found (suc n) p some =
    elim (cases_Bool (p n)) [
      | inl passes ↦ (n, omega arith, passes)
      | inr fails ↦
          let here : one_if (p n) ≡ 0 = ap one_if fails in
          let found = how_many-found n p (omega arith) in
          (found.0, omega arith, found.2)
    ]

-- what passes one of two tests
pub how_many-parts :
    (n : ℕ) (p q r : ℕ → Bool) → ((i : ℕ) → i < n → one_if (p i) + one_if (q i) ≡ one_if (r i))
    → how_many n p + how_many n q ≡ how_many n r
unfolding how_many
how_many-parts zero p q r parts = refl
how_many-parts (suc n) p q r parts =
    let before = how_many-parts n p q r (λ i less. parts i (omega arith)) in
    let here = parts n (omega arith) in
    omega (arith, before, here)

-- the elements of a list that pass a test, by their places
pub how_many-places :
    (xs : List ℕ) (p : ℕ → Bool) (n : ℕ) → n ≤ length xs → how_many n (λ i. p (get_or xs i 0)) ≡ count_by p (take n xs)
unfolding how_many
how_many-places xs p zero within = refl
how_many-places xs p (suc n) within =
    let before = how_many-places xs p n (omega arith) in
    elim (cases_Bool (p (get_or xs n 0))) [
      | inl passes ↦
          let here : one_if (p (get_or xs n 0)) ≡ 1 = ap one_if passes in
          let more = ap (λ m. count_by p (take m xs)) (sym (add-one n)) ∙ count_by_more_yes p xs n 0 (omega arith) passes in
          omega (arith, before, here, more)
      | inr fails ↦
          let here : one_if (p (get_or xs n 0)) ≡ 0 = ap one_if fails in
          let more = ap (λ m. count_by p (take m xs)) (sym (add-one n)) ∙ count_by_more_no p xs n 0 (omega arith) fails in
          omega (arith, before, here, more)
    ]
