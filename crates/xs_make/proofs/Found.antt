-- The names of the level files
use Rattle.std.proofs.Common.{◌≡◌, ℕ, zero, suc, ◌+◌, ◌≤◌, ◌<◌, Bool, true, false, if◌then◌else◌, Some, map, find, refl, ap, ◌∙◌, arith, inl, inr}
use Rattle.std.specs.List.{range_with_len}
use Rattle.std.specs.Fmt.{digits}
use Rattle.std.specs.Str.{bytes_eq}
use Rattle.std.proofs.lemmas.Bool.{agree_below, agree_below_at, cases_eq}
use Rattle.xs_outside.specs.declared.object.Object.{Object}
use Rattle.xs_make.specs.Files.{cel_file, cel_name}

-- no two drawings of words have one name
cels_differ : (j k : ℕ) → j < k → k < 12 → bytes_eq (cel_name j) (cel_name k) ≡ false
unfolding digits
cels_differ j k less few =
    let of_k : agree_below (λ j. bytes_eq (cel_name j) (cel_name k)) (λ j. false) k ≡ true =
    agree_below_at (λ k. agree_below (λ j. bytes_eq (cel_name j) (cel_name k)) (λ j. false) k) (λ k. true) 12 k refl few in
    agree_below_at (λ j. bytes_eq (cel_name j) (cel_name k)) (λ j. false) k j of_k less

same_name : (m : ℕ) → m < 12 → bytes_eq (cel_name m) (cel_name m) ≡ true
unfolding digits
same_name m few = agree_below_at (λ m. bytes_eq (cel_name m) (cel_name m)) (λ m. true) 12 m refl few

-- the first that passes a test
find_at :
    {A : Type 0} (test : A → Bool) (f : ℕ → A) (a n k : ℕ) → a ≤ k → k < a + n → test (f k) ≡ true
    → ((j : ℕ) → j < k → test (f j) ≡ false) → find test (map f (range_with_len a n)) ≡ Some (f k)
find_at test f a zero k least below passes earlier = absurd (omega arith)
find_at test f a (suc n) k least below passes earlier =
    elim (cases_eq a k) [
      | inl here ↦
          ap (λ (b : Bool). if b then Some (f a) else find test (map f (range_with_len (a + 1) n))) (ap (λ j. test (f j)) here ∙ passes)
          ∙ ap (λ j. Some (f j)) here
      | inr other ↦
          ap (λ (b : Bool). if b then Some (f a) else find test (map f (range_with_len (a + 1) n))) (earlier a (omega arith))
          ∙ find_at test f (a + 1) n k (omega arith) (omega arith) passes earlier
    ]

-- a drawing of words is found by its name
pub cel_found :
    (x m : ℕ) → m < 12 → find (λ (file : Object). bytes_eq file.name (cel_name m)) (map (cel_file x) (range_with_len 0 12)) ≡ Some (cel_file x m)
cel_found x m few =
    find_at (λ (file : Object). bytes_eq file.name (cel_name m)) (cel_file x) 0 12 m (omega arith) (omega arith) (same_name m few)
    (λ j less. cels_differ j m less few)
