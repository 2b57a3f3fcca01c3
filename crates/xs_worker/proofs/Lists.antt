-- Lemmas on how often a number stands in a list
use Rattle.std.proofs.Common.{◌≡◌, ◌≢◌, ◌<◌, ◌≤◌, ◌+◌, ℕ, ◌==◌, cond, List, [], ◌∷◌, ◌++◌, refl, sym, ap, ◌∙◌, ◌⊎◌, inl, inr, arith}
use Rattle.std.proofs.lemmas.Bool.{cases_eq, eq-eqb, ne_eqb}
use Rattle.std.proofs.lemmas.List.{map-append}
use Rattle.std.proofs.lemmas.List.Sums.{sum_by-cons, sum_by-append}
use Rattle.xs_core.specs.Views.{Signed, signed, times, entries}
use Rattle.xs_worker.specs.Claims.{tagged}

pub times-same : (k : ℕ) (xs : List ℕ) → times k (k ∷ xs) ≡ 1 + times k xs
times-same k xs =
    let cons = sum_by-cons (λ n. cond (n == k) 1 0) k xs in
    let one = ap (λ b. cond {A = ℕ} b 1 0) (eq-eqb k k refl) in
    omega (arith, cons, one)

pub times-other : (k x : ℕ) (xs : List ℕ) → x ≢ k → times k (x ∷ xs) ≡ times k xs
times-other k x xs differ =
    let cons = sum_by-cons (λ n. cond (n == k) 1 0) x xs in
    let none = ap (λ b. cond {A = ℕ} b 1 0) (ne_eqb x k differ) in
    omega (arith, cons, none)

pub times-found : (k x : ℕ) (xs : List ℕ) → 0 < times k (x ∷ xs) → (x ≡ k) ⊎ (0 < times k xs)
times-found k x xs some =
    elim (cases_eq x k) [
      | inl same ↦ inl same
      | inr differ ↦ inr (let other = times-other k x xs differ in omega (arith, other, some))
    ]

pub times-one : (k x : ℕ) → 0 < times k (x ∷ []) → x ≡ k
times-one k x some =
    elim (times-found k x [] some) [
      | inl same ↦ same
      | inr none ↦ absurd (let n : 0 < 0 = none in omega (arith, n))
    ]

pub times-more : (k x : ℕ) (xs : List ℕ) → times k xs ≤ times k (x ∷ xs)
times-more k x xs = let cons = sum_by-cons (λ n. cond (n == k) 1 0) x xs in omega (arith, cons)

pub times-append : (k : ℕ) (xs ys : List ℕ) → times k (xs ++ ys) ≡ times k xs + times k ys
times-append k xs ys = sum_by-append (λ n. cond (n == k) 1 0) xs ys

pub entries-tagged : (number k : ℕ) (items : List ℕ) → entries k (tagged number items) ≡ times k items
entries-tagged number k [] = refl
entries-tagged number k (x ∷ items) =
    sum_by-cons (λ (s : Signed). cond (s.item == k) 1 0) (signed number x) (tagged number items)
    ∙ ap (λ n. cond (x == k) 1 0 + n) (entries-tagged number k items) ∙ sym (sum_by-cons (λ n. cond (n == k) 1 0) x items)

-- what is added to a list is found there more often
pub entries-grown :
    (k number : ℕ) (old new : List Signed) (items : List ℕ) → new ≡ old ++ tagged number items
    → entries k new ≡ entries k old + times k items
entries-grown k number old new items is =
    let all = ap (λ l. entries k l) is ∙ sum_by-append (λ (s : Signed). cond (s.item == k) 1 0) old (tagged number items) in
    let more = entries-tagged number k items in
    omega (arith, all, more)

pub tagged-append : (number : ℕ) (xs ys : List ℕ) → tagged number (xs ++ ys) ≡ tagged number xs ++ tagged number ys
tagged-append number xs ys = map-append (λ k. signed number k) xs ys
