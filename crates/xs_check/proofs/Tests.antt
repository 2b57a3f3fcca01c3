-- The tests of checking tell what they are to tell.
use Rattle.std.proofs.Common.{◌≡◌, ◌≢◌, ◌<◌, ◌≤◌, ◌&&◌, ℕ, Bool, true, false, not, eqb, ltb, min, max, List, [], ◌∷◌, All, Decides, refl, bytes_eq, inl, inr, arith}
use Rattle.std.specs.List.{list_all}
use Rattle.std.proofs.lemmas.Bool.{false≢true, ltb-true, lt-ltb, cases_lt}
use Rattle.std.proofs.lemmas.Bool.Decides.{Decides-eqb, Decides-not}
use Rattle.std.proofs.lemmas.Slice.Eq.{bytes_eq-Decides}
use Rattle.std.proofs.lemmas.List.Elements.{All-nil, All-cons, All-head, All-tail}
use Rattle.xs_scene.specs.Records.{ExposureRecord, PegKeyRecord, StyleKeyRecord}
use Rattle.xs_index.specs.Apart.{AreApart, DifferInRow, DifferInRowOrStyle}
use Rattle.xs_check.specs.Passes.{are_apart, differ_in_row, differ_in_row_or_style}

-- no number lies in two ranges
abbrev Apart : ℕ → ℕ → ℕ → ℕ → Type 0
Apart from to first last = (row : ℕ) → from ≤ row → row ≤ to → first ≤ row → row ≤ last → ⊥

before_other : (from to first last : ℕ) → min to last < max from first → Apart from to first last
before_other from to first last less row a b c d = omega arith

-- the greater of the two first numbers lies in both where any does
not_apart : (from to first last : ℕ) → max from first ≤ min to last → Apart from to first last → ⊥
not_apart from to first last most apart =
    apart (max from first) (omega arith) (omega arith) (omega arith) (omega arith)

ranges_apart : (from to first last : ℕ) → Apart from to first last → ltb (min to last) (max from first) ≡ true
ranges_apart from to first last apart =
    elim (cases_lt (min to last) (max from first)) [
      | inl less ↦ lt-ltb (min to last) (max from first) less
      | inr most ↦ absurd (not_apart from to first last most apart)
    ]

pub cells_decided : (a b : ExposureRecord) → Decides (are_apart a b) (AreApart a b)
cells_decided a b = (
  λ less. before_other a.from a.to b.from b.to (ltb-true (min a.to b.to) (max a.from b.from) less),
  λ apart. ranges_apart a.from a.to b.from b.to apart,
)

pub rows_decided : (a b : PegKeyRecord) → Decides (differ_in_row a b) (DifferInRow a b)
rows_decided a b = Decides-not (eqb a.row b.row) (Decides-eqb a.row b.row)

both_differ : (x y : Bool) (P Q : Type 0) → Decides x P → Decides y Q → Decides (not (x && y)) (P → Q → ⊥)
both_differ true y P Q p q = (λ yes holds. (Decides-not y q).0 yes, λ differ. (Decides-not y q).1 (differ (p.0 refl)))
both_differ false y P Q p q = (λ yes holds. absurd (false≢true (p.1 holds)), λ differ. refl)

pub keys_decided : (a b : StyleKeyRecord) → Decides (differ_in_row_or_style a b) (DifferInRowOrStyle a b)
keys_decided a b =
    both_differ (eqb a.style b.style) (eqb a.row b.row) (a.style ≡ b.style) (a.row ≡ b.row) (Decides-eqb a.style b.style) (Decides-eqb a.row b.row)

pub texts_decided : (a b : List ℕ) → Decides (not (bytes_eq a b)) (a ≢ b)
texts_decided a b = Decides-not (bytes_eq a b) (bytes_eq-Decides a b)

-- ---- of lists

both_decided : (p q : Bool) (P Q R : Type 0) → Decides p P → Decides q Q → (P → Q → R) → (R → P) → (R → Q) → Decides (p && q) R
both_decided true q P Q R p_is q_is join left right = (λ yes. join (p_is.0 refl) (q_is.0 yes), λ both. q_is.1 (right both))
both_decided false q P Q R p_is q_is join left right = (λ no. absurd (false≢true no), λ both. p_is.1 (left both))

pub all_decided : {X : Type 0} (test : X → Bool) (P : X → Type 0) → ((x : X) → Decides (test x) (P x)) → (xs : List X) → Decides (list_all test xs) (All P xs)
all_decided test P decides [] = (λ yes. All-nil P, λ all. refl)
all_decided test P decides (x ∷ xs) =
    both_decided (test x) (list_all test xs) (P x) (All P xs) (All P (x ∷ xs)) (decides x) (all_decided test P decides xs) (All-cons P x xs)
    (All-head P x xs) (All-tail P x xs)
