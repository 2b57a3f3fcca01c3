-- Which aliases come first in which section
use Rattle.std.proofs.Common.{◌≡◌, ℕ, zero, suc, ◌+◌, ◌*◌, ◌/◌, ◌<◌, ◌≤◌, ◌==◌, not, ◌&&◌, nat_lt, nat_le, List, [], ◌∷◌, length, take, count_by, sym, ap, ◌∙◌, inl, inr, arith}
use Rattle.std.proofs.Math.Nat.{div-lt_iff_lt-mul}
use Rattle.std.proofs.lemmas.Bool.{cases_lt, lt-ltb, le-ltb}
use Rattle.std.proofs.lemmas.Bool.Decides.{nat_tests}
use Rattle.std.proofs.lemmas.List.{length-append}
use Rattle.xs_base.specs.declared.limits.TheConstants.{SECTION_ROWS}
use Rattle.xs_rect.specs.Area.{Area}
use Rattle.xs_meaning.specs.Expressions.{Expr}
use Rattle.xs_plan.specs.Record.{PlanRecord}
use Rattle.xs_plan.specs.Sections.{first_row, first_section}
use Rattle.xs_demand.specs.Aliases.{Alias, visit_tiles, visit_rows}
use Rattle.xs_demand.specs.Shown.{ends_of}
use Rattle.xs_demand.proofs.FirstRows.{ended, ended_before, not_ended, none_ended}
use Rattle.xs_demand.proofs.VisitLemmas.{visits_rows}

longer_rows : (tiles : List Area) (roots : List Expr) (l : List Alias) → length l ≤ length (visit_rows tiles roots l)
longer_rows tiles roots l =
    let v = visits_rows tiles roots l in
    let long : length (visit_rows tiles roots l) ≡ length l + length v.added = ap length v.is ∙ length-append l v.added in
    omega arith

one_less : (n rows : ℕ) → nat_lt (suc n) (suc rows) ≡ nat_lt n rows
one_less n rows = grind (arith, nat_tests)

-- fewer rows end before an alias exactly where it is among those of the first ones
fewer_ended :
    (tiles : List Area) (roots : List Expr) (l : List Alias) (k rows : ℕ) → length l ≤ k → k < length (visit_rows tiles roots l)
    → nat_lt (ended (ends_of tiles roots l) k) rows ≡ nat_lt k (length (visit_rows tiles (take rows roots) l))
fewer_ended tiles [] l k rows from to = absurd (omega arith)
fewer_ended tiles (e ∷ roots) l k zero from to =
    le-ltb (ended (ends_of tiles (e ∷ roots) l) k) 0 (omega arith) ∙ sym (le-ltb k (length l) from)
fewer_ended tiles (e ∷ roots) l k (suc rows) from to =
    let m = visit_tiles e tiles l in
    elim (cases_lt k (length m)) [
      | inl lt ↦
          let none = not_ended (length m) (ends_of tiles roots m) k lt ∙ none_ended tiles roots m k lt in
          let long = longer_rows tiles (take rows roots) m in
          lt-ltb (ended (ends_of tiles (e ∷ roots) l) k) (suc rows) (omega arith)
          ∙ sym (lt-ltb k (length (visit_rows tiles (take rows roots) m)) (omega arith))
      | inr le ↦
          ap (λ n. nat_lt n (suc rows)) (ended_before (length m) (ends_of tiles roots m) k le)
          ∙ one_less (ended (ends_of tiles roots m) k) rows
          ∙ fewer_ended tiles roots m k rows le to
    ]

-- and so by sections
quotient_test : (n k s : ℕ) → 0 < k → nat_lt (n / k) s ≡ nat_lt n (k * s)
quotient_test n k s some =
    let tells = div-lt_iff_lt-mul {k = k} {x = n} {y = s} some in
    same_test (n / k) s n (k * s) (λ lt. omega (arith, tells.0 lt)) (λ lt. tells.1 (omega arith))
  where
    same_test : (a b c d : ℕ) → (a < b → c < d) → (c < d → a < b) → nat_lt a b ≡ nat_lt c d
    same_test a b c d to from = elim (cases_lt a b) [
      | inl lt ↦ lt-ltb a b lt ∙ sym (lt-ltb c d (to lt))
      | inr le ↦ le-ltb a b le ∙ sym (grind (arith, nat_tests))
    ]

pub section_before :
    (tiles : List Area) (roots : List Expr) (p : PlanRecord) → p.ends ≡ ends_of tiles roots [] → (s k : ℕ)
    → k < length (visit_rows tiles roots [])
    → nat_lt (first_section p k) s ≡ nat_lt k (length (visit_rows tiles (take (SECTION_ROWS * s) roots) []))
section_before tiles roots p ends s k lt =
    quotient_test (first_row p k) SECTION_ROWS s (omega arith)
    ∙ ap (λ es. nat_lt (count_by (λ end. nat_le end k) es) (SECTION_ROWS * s)) ends
    ∙ fewer_ended tiles roots [] k (SECTION_ROWS * s) (omega arith) lt

pub section_is : (n s : ℕ) → (n == s) ≡ (not (nat_lt n s) && nat_lt n (s + 1))
section_is n s = elim (cases_lt n s) [
  | inl lt ↦ grind (arith, nat_tests)
  | inr le ↦ grind (arith, nat_tests)
]
