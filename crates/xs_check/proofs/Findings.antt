use Rattle.std.proofs.Common.{◌≡◌, ◌<◌, ◌+◌, ℕ, zero, suc, Bool, true, false, List, [], ◌∷◌, Option, Some, None, Result, Ok, Err, Decides, length, drop, get_or, is_err, refl, sym, ◌∙◌, ap, subst, arith, option_map}
use Rattle.std.proofs.Math.Seq.{drop-cons}
use Rattle.std.proofs.Math.Numerals.{add-one}
use Rattle.xs_fault.specs.declared.fault.SceneFault.{SceneFault}
use Rattle.xs_fault.specs.declared.fault.FieldFault.{FieldFault}
use Rattle.xs_fault.specs.declared.fault.FieldFault.TheVariants as errors
use Rattle.xs_fault.specs.declared.code.SceneCode.{SceneCode}
use Rattle.xs_fault.specs.Paths.{index_at}
use Rattle.xs_base.specs.First.{IsFirstWithout}
use Rattle.xs_check.specs.Finding.{Finding, Finds, unless, or_else, each_from, IsFaultAtFirst}

drop_at : {A : Type 0} (xs : List A) (i : ℕ) (x : A) → i < length xs → x ≡ get_or xs i x → drop i xs ≡ x ∷ drop (i + 1) xs
drop_at xs i x below is = rw (add-one i, drop-cons xs i x, ← is) refl

module _ {A : Type 0} (F : ℕ → A → Finding) (xs : List A) (i : ℕ) (x : A) (G : Finding) (below : i < length xs) (is : x ≡ get_or xs i x) where
  here_first : each_from F i (drop i xs) ≡ or_else (F i x) (each_from F (i + 1) (drop (i + 1) xs))
  here_first = ap (λ (l : List A). each_from F i l) (drop_at xs i x below is)

  -- where an element is faultless, the elements from it on find what those after it find
  pub each_passed : F i x ≡ None → each_from F i (drop i xs) ≡ G → each_from F (i + 1) (drop (i + 1) xs) ≡ G
  each_passed passed finds =
      sym (ap (λ (f : Finding). or_else f (each_from F (i + 1) (drop (i + 1) xs))) passed) ∙ sym here_first ∙ finds

  -- the first fault of the elements from one on is its own fault
  pub each_failed : (r : Result (Unit {0}) FieldFault) → is_err r ≡ true → Finds r (F i x) → each_from F i (drop i xs) ≡ G → Finds r G
  each_failed (Ok u) fails failed finds = absurd (cc)
  each_failed (Err errors.Memory) fails failed finds = tt
  each_failed (Err (errors.Fault fault)) fails failed finds =
      sym finds ∙ here_first ∙ ap (λ (f : Finding). or_else f (each_from F (i + 1) (drop (i + 1) xs))) failed

-- a check that didn't fail finds nothing
pub finds_none : (F : Finding) (r : Result (Unit {0}) FieldFault) → is_err r ≡ false → Finds r F → F ≡ None
finds_none F (Ok u) passed h = h
finds_none F (Err e) passed h = absurd (cc)

-- ---- the first of some elements

module _ {A : Type 0} (F : ℕ → A → Finding) where
  pub each_none : (xs : List A) (k : ℕ) → ((n i : ℕ) (d : A) → n ≡ k + i → i < length xs → F n (get_or xs i d) ≡ None) → each_from F k xs ≡ None
  each_none [] k none = refl
  each_none (x ∷ xs) k none =
      ap (λ (f : Finding). or_else f (each_from F (k + 1) xs)) (none k 0 x (omega arith) (omega arith))
      ∙ each_none xs (k + 1) (λ n i d is below. none n (suc i) d (omega arith) (omega arith))

  pub each_some : (xs : List A) (k m j : ℕ) (fault : SceneFault) → m ≡ k + j → j < length xs → ((d : A) → F m (get_or xs j d) ≡ Some fault)
      → ((n i : ℕ) (d : A) → n ≡ k + i → i < j → F n (get_or xs i d) ≡ None) → each_from F k xs ≡ Some fault
  each_some [] k m j fault at below here before = absurd (omega arith)
  each_some (x ∷ xs) k m zero fault at below here before =
      let same : m ≡ k = omega arith in
      ap (λ (f : Finding). or_else f (each_from F (k + 1) xs)) (subst (λ (n : ℕ). F n x ≡ Some fault) same (here x))
  each_some (x ∷ xs) k m (suc j) fault at below here before =
      ap (λ (f : Finding). or_else f (each_from F (k + 1) xs)) (before k 0 x (omega arith) (omega arith))
      ∙ each_some xs (k + 1) m j fault (omega arith) (omega arith) here (λ n i d is early. before n (suc i) d (omega arith) (omega arith))

-- ---- tests of the elements

pub unless_holds : (code : SceneCode) (at : List ℕ) (b : Bool) → b ≡ true → unless code at b ≡ None
unless_holds code at b holds = rw holds refl

pub unless_fails : (code : SceneCode) (at : List ℕ) (b : Bool) (P : Type 0) → Decides b P → (P → ⊥) → unless code at b ≡ Some (record { code = code; path = at })
unless_fails code at true P decides fails = absurd (fails (decides.0 refl))
unless_fails code at false P decides fails = refl

module _ {A : Type 0} (P : ℕ → Type 0) (test : ℕ → A → Bool) (code : SceneCode) (path : ℕ → List ℕ) (xs : List A)
    (decides : (i : ℕ) (d : A) → i < length xs → Decides (test i (get_or xs i d)) (P i)) where
  -- the fault at the first element without P, if there is one
  pub first_found : (first : Option ℕ) → IsFirstWithout P (length xs) first
      → each_from (λ i x. unless code (path i) (test i x)) 0 xs ≡ option_map (λ i. record { code = code; path = path i }) first
  first_found None h =
      each_none (λ i x. unless code (path i) (test i x)) xs 0
      (λ n i d is below.
      let same : i ≡ n = omega arith in
      unless_holds code (path n) (test n (get_or xs i d))
      (subst (λ (m : ℕ). test m (get_or xs i d) ≡ true) same ((decides i d below).1 (h i below))))
  first_found (Some j) (below, bad, before) =
      each_some (λ i x. unless code (path i) (test i x)) xs 0 j j (record { code = code; path = path j }) (omega arith) below
      (λ d. unless_fails code (path j) (test j (get_or xs j d)) (P j) (decides j d below) bad)
      (λ n i d is early.
      let same : i ≡ n = omega arith in
      unless_holds code (path n) (test n (get_or xs i d))
      (subst (λ (m : ℕ). test m (get_or xs i d) ≡ true) same ((decides i d (omega arith)).1 (before i early))))

-- what a function answers that looked for the first element without P
pub first_told : {A : Type 0} (P : ℕ → Type 0) (test : ℕ → A → Bool) (code : SceneCode) (at : List ℕ) (xs : List A)
    → ((i : ℕ) (d : A) → i < length xs → Decides (test i (get_or xs i d)) (P i)) → (first : Option ℕ) (r : Result (Unit {0}) FieldFault)
    → IsFirstWithout P (length xs) first → IsFaultAtFirst code at first r → Finds r (each_from (λ i x. unless code (index_at at i) (test i x)) 0 xs)
first_told P test code at xs decides first (Ok u) h told = first_found P test code (index_at at) xs decides first h ∙ rw told refl
first_told P test code at xs decides first (Err errors.Memory) h told = tt
first_told P test code at xs decides first (Err (errors.Fault fault)) h (i, is, fault_is) =
    first_found P test code (index_at at) xs decides first h ∙ rw (is, fault_is) refl
