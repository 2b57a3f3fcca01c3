-- Lemmas on how often a number stands in a list and in the entries of a seat
use Rattle.std.proofs.Common.{◌≡◌, ◌≤◌, ◌+◌, ℕ, ◌==◌, cond, Bool, true, false, List, [], ◌∷◌, ◌++◌, length, refl, sym, ap, ◌∙◌, inl, inr, arith}
use Rattle.std.proofs.lemmas.Bool.{cases_lt}
use Rattle.std.proofs.lemmas.List.{append-nil}
use Rattle.std.proofs.lemmas.List.Sums.{sum_by-cons, sum_by-append}
use Rattle.xs_plan.specs.Record.{PlanRecord}
use Rattle.xs_core.specs.Views.{Signed, signed, DeskView, DeskOk, times, entries}
use Rattle.xs_worker.specs.Claims.{tagged}

pub times-append : (k : ℕ) (xs ys : List ℕ) → times k (xs ++ ys) ≡ times k xs + times k ys
times-append k xs ys = sum_by-append (λ n. cond (n == k) 1 0) xs ys

entries-tagged : (number k : ℕ) (items : List ℕ) → entries k (tagged number items) ≡ times k items
entries-tagged number k [] = refl
entries-tagged number k (x ∷ items) =
    sum_by-cons (λ (s : Signed). cond (s.item == k) 1 0) (signed number x) (tagged number items)
    ∙ ap (λ n. cond (x == k) 1 0 + n) (entries-tagged number k items) ∙ sym (sum_by-cons (λ n. cond (n == k) 1 0) x items)

-- what a seat enters is found in its list so often more
pub entries-more : (k number : ℕ) (old new : List Signed) (items : List ℕ) → new ≡ old ++ tagged number items
    → entries k new ≡ entries k old + times k items
entries-more k number old new items is =
    let all = ap (λ l. entries k l) is ∙ sum_by-append (λ (s : Signed). cond (s.item == k) 1 0) old (tagged number items) in
    let more = entries-tagged number k items in
    omega (arith, all, more)

-- and nothing where it enters nothing
pub entries-still : (k : ℕ) (old new : List Signed) → new ≡ old ++ [] → entries k new ≡ entries k old
entries-still k old new is = ap (λ (l : List Signed). entries k l) (is ∙ append-nil old)

one_at_most : (b : Bool) → cond {A = ℕ} b 1 0 ≤ 1
one_at_most true = omega arith
one_at_most false = omega arith

-- in a list of at most one number none stands twice
pub times-few : (k : ℕ) (xs : List ℕ) → length xs ≤ 1 → times k xs ≤ 1
times-few k [] few = omega arith
times-few k (x ∷ []) few =
    let cons = sum_by-cons (λ n. cond (n == k) 1 0) x [] in
    let one = one_at_most (x == k) in
    omega (arith, cons, one)
times-few k (x ∷ y ∷ xs) few = absurd (omega (arith, few))

-- what is no alias of a plan a seat has not made
pub none_past : (p : PlanRecord) (v : DeskView) (k : ℕ) → DeskOk p v → length p.entries ≤ k → entries k v.made ≡ 0
none_past p v k ok past = elim (cases_lt 0 (entries k v.made)) [
  | inl some ↦ let within = ok.known_within k (ok.knows_made k some) in absurd (omega (arith, within, past))
  | inr none ↦ omega (arith, none)
]
