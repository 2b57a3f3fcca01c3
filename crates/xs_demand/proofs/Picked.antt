-- What is picked by number from a list
use Rattle.std.proofs.Common.{◌≡◌, ℕ, zero, suc, ◌+◌, ◌<◌, ◌≤◌, Bool, true, false, cond, Option, Some, List, [], ◌∷◌, ◌++◌, length, filter, filter_map, slice_get, refl, ap, ap₂, ◌∙◌, subst, arith}
use Rattle.std.specs.List.{range_with_len, cons_option}
use Rattle.std.proofs.lemmas.List.{length-append}
use Rattle.std.proofs.lemmas.List.Elements.{filter-append, filter_map-append}

-- numbers, and those behind them
pub range-append : (a m n : ℕ) → range_with_len a (m + n) ≡ range_with_len a m ++ range_with_len (a + m) n
range-append a zero n = ap₂ range_with_len (omega arith) (omega arith)
range-append a (suc m) n =
    ap (range_with_len a) (let sum : suc m + n ≡ suc (m + n) = omega arith in sum)
    ∙ ap (λ xs. a ∷ xs)
    (range-append (a + 1) m n
    ∙ ap (λ b. range_with_len (a + 1) m ++ range_with_len b n) (let sum : a + 1 + m ≡ a + suc m = omega arith in sum))

module _ {A : Type 0} (show : ℕ → Option ℕ) (passes : ℕ → Bool) (own : A → Option ℕ) where
  -- what the elements from a number on show, where they pass
  abbrev pub picked : ℕ → List A → List ℕ
  picked b xs = filter_map show (filter passes (range_with_len b (length xs)))

  pub picked-append : (b : ℕ) (xs ys : List A) → picked b (xs ++ ys) ≡ picked b xs ++ picked (b + length xs) ys
  picked-append b xs ys =
      ap (λ n. filter_map show (filter passes (range_with_len b n))) (length-append xs ys)
      ∙ ap (λ ks. filter_map show (filter passes ks)) (range-append b (length xs) (length ys))
      ∙ ap (filter_map show) (filter-append passes (range_with_len b (length xs)) (range_with_len (b + length xs) (length ys)))
      ∙ filter_map-append show (filter passes (range_with_len b (length xs))) (filter passes (range_with_len (b + length xs) (length ys)))

  -- the elements from a number on show their own
  abbrev pub ShowOwn : ℕ → List A → Type 0
  ShowOwn b xs = (i : ℕ) (x : A) → slice_get xs i ≡ Some x → show (b + i) ≡ own x

  later : (b : ℕ) (y : A) (xs : List A) → ShowOwn b (y ∷ xs) → ShowOwn (b + 1) xs
  later b y xs shows i x at =
      subst (λ k. show k ≡ own x) (let sum : b + suc i ≡ b + 1 + i = omega arith in sum) (shows (suc i) x at)

  -- all of them pass
  pub picked-all :
      (b : ℕ) (xs : List A) → ShowOwn b xs → ((k : ℕ) → b ≤ k → k < b + length xs → passes k ≡ true)
      → picked b xs ≡ filter_map own xs
  picked-all b [] shows pass = refl
  picked-all b (x ∷ xs) shows pass =
      let rest = filter passes (range_with_len (b + 1) (length xs)) in
      ap (λ t. filter_map show (cond t (b ∷ rest) rest)) (pass b (omega arith) (omega arith))
      ∙ ap₂ cons_option
      (subst (λ k. show k ≡ own x) (let sum : b + 0 ≡ b = omega arith in sum) (shows zero x refl))
      (picked-all (b + 1) xs (later b x xs shows) (λ k from to. pass k (omega arith) (omega arith)))

  -- none does
  pub picked-none : (b : ℕ) (xs : List A) → ((k : ℕ) → b ≤ k → k < b + length xs → passes k ≡ false) → picked b xs ≡ []
  picked-none b [] pass = refl
  picked-none b (x ∷ xs) pass =
      let rest = filter passes (range_with_len (b + 1) (length xs)) in
      ap (λ t. filter_map show (cond t (b ∷ rest) rest)) (pass b (omega arith) (omega arith))
      ∙ picked-none (b + 1) xs (λ k from to. pass k (omega arith) (omega arith))
