-- Which drawings are needed before, in and after a section
use Rattle.std.proofs.Common.{◌≡◌, ℕ, zero, suc, ◌+◌, ◌<◌, ◌≤◌, ◌==◌, nat_le, nat_lt, Bool, true, false, not, ◌&&◌, ◌||◌, cond, eqb, if◌then◌else◌, List, [], ◌∷◌, ◌++◌, length, take, get_or, All, Contains, Option, Some, None, is_some, IfSome, refl, sym, ap, ◌∙◌, subst, inl, inr, ◌⊎◌, arith}
use Rattle.std.specs.List.{filter, filter_map, range_with_len}
use Rattle.std.specs.Option.{option_map_or}
use Rattle.std.proofs.lemmas.Bool.{or_cases, eq-eqb}
use Rattle.std.proofs.lemmas.Bool.Decides.{nat_tests}
use Rattle.std.proofs.lemmas.List.Folds.{list_any-append, list_any_at}
use Rattle.std.proofs.lemmas.List.Elements.{All-contains, Contains-append_cases}
use Rattle.std.proofs.lemmas.Option.{same_Some}
use Rattle.xs_base.specs.Listed.{is_listed}
use Rattle.xs_base.specs.Once.{fresh, each_once}
use Rattle.xs_base.proofs.OnceLemmas.{Contains-listed, Contains-fresh, fresh-has}
use Rattle.xs_chain.specs.Row.{list_with}
use Rattle.xs_plan.specs.Record.{PlanRecord, entry_at, drawing_of}
use Rattle.xs_plan.specs.Sections.{first_section, sections_in}
use Rattle.xs_plan.specs.Needed.{drawings_where, needs, needs_before, new_drawings, last_section_of, held}
use Rattle.xs_plan.specs.Valid.{IsPlan}
use Rattle.xs_plan.proofs.NeedLemmas.{needs_before-next}
use Rattle.xs_plan.proofs.PlanLemmas.{last_section-needed}
use Rattle.xs_plan.proofs.HeldLemmas.{held-while_needed, needs-by_aliases, filter-from}
use Rattle.xs_levels.specs.Stocked.{is_needed_from, list_of_drawing, left_after}

-- ---- what is listed

same_truth : (a b : Bool) → (a ≡ true → b ≡ true) → (b ≡ true → a ≡ true) → a ≡ b
same_truth true b to from = sym (to refl)
same_truth false true to from = let no : false ≡ true = from refl in no
same_truth false false to from = refl

pub listed-append : (a b : List ℕ) (d : ℕ) → is_listed (a ++ b) d ≡ (is_listed a d || is_listed b d)
listed-append a b d = list_any-append _ a b

pub listed-Contains : (xs : List ℕ) (d : ℕ) → Contains xs d → is_listed xs d ≡ true
listed-Contains xs d has = list_any_at (λ x. eqb x d) xs has.0 d has.1 (eq-eqb (get_or xs has.0 d) d has.2)

or_second : (a b : Bool) → b ≡ true → (a || b) ≡ true
or_second true b is = refl
or_second false b is = is

and_both : (a b : Bool) → (a && b) ≡ true → (a ≡ true) × (b ≡ true)
and_both true b is = (refl, is)
and_both false b is = absurd (cc)

filter_step : (q : ℕ → Bool) (y : ℕ) (ys : List ℕ) (d : ℕ) (b : Bool) → q y ≡ b → q d ≡ true
    → (is_listed ys d ≡ true → is_listed (filter q ys) d ≡ true) → ((y == d) || is_listed ys d) ≡ true
    → is_listed (cond b (y ∷ filter q ys) (filter q ys)) d ≡ true
filter_step q y ys d true is passes rest listed =
    elim (or_cases (y == d) (is_listed ys d) listed) [
      | inl here ↦ ap (λ b. b || is_listed (filter q ys) d) here
      | inr there ↦ or_second (y == d) (is_listed (filter q ys) d) (rest there)
    ]
filter_step q y ys d false isnt passes rest listed =
    elim (or_cases (y == d) (is_listed ys d) listed) [
      | inl here ↦
          let same : y ≡ d = grind (arith, nat_tests, here) in
          let no : false ≡ true = sym isnt ∙ (ap q same ∙ passes) in absurd (cc)
      | inr there ↦ rest there
    ]

filter_keeps : (q : ℕ → Bool) (ys : List ℕ) (d : ℕ) → q d ≡ true → is_listed ys d ≡ true → is_listed (filter q ys) d ≡ true
filter_keeps q [] d passes listed = listed
filter_keeps q (y ∷ ys) d passes listed = filter_step q y ys d (q y) refl passes (filter_keeps q ys d passes) listed

listed_filter : (q : ℕ → Bool) (xs : List ℕ) (d : ℕ) → is_listed (filter q xs) d ≡ (q d && is_listed xs d)
listed_filter q xs d =
    same_truth (is_listed (filter q xs) d) (q d && is_listed xs d)
    (λ listed.
    let found = filter-from q xs d (Contains-listed (filter q xs) d listed) in
    ap (λ b. b && is_listed xs d) found.1 ∙ listed-Contains xs d found.0)
    (λ both. let parts = and_both (q d) (is_listed xs d) both in filter_keeps q xs d parts.0 parts.1)

listed_once : (known xs : List ℕ) (d : ℕ) → is_listed (known ++ fresh known xs) d ≡ is_listed (known ++ xs) d
listed_once known xs d =
    same_truth (is_listed (known ++ fresh known xs) d) (is_listed (known ++ xs) d)
    (λ listed.
    elim (or_cases (is_listed known d) (is_listed (fresh known xs) d) (sym (listed-append known (fresh known xs) d) ∙ listed)) [
      | inl first ↦ listed-append known xs d ∙ ap (λ b. b || is_listed xs d) first
      | inr new ↦
          listed-append known xs d
          ∙ or_second (is_listed known d) (is_listed xs d) (listed-Contains xs d (Contains-fresh known xs d (Contains-listed (fresh known xs) d new)))
    ])
    (λ listed.
    elim (or_cases (is_listed known d) (is_listed xs d) (sym (listed-append known xs d) ∙ listed)) [
      | inl first ↦ listed-append known (fresh known xs) d ∙ ap (λ b. b || is_listed (fresh known xs) d) first
      | inr old ↦
          listed-Contains (known ++ fresh known xs) d
          (All-contains (Contains (known ++ fresh known xs)) xs d (fresh-has known xs) (Contains-listed xs d old))
    ])

-- ---- what is known after a section

pub known_next : (p : PlanRecord) (s d : ℕ) → is_listed (needs_before p s ++ new_drawings p s) d ≡ is_listed (needs_before p (s + 1)) d
unfolding new_drawings
known_next p s d =
    listed_once (needs_before p s) (needs p s) d ∙ ap (λ l. is_listed l d) (sym (needs_before-next p s))

filter_same : (q r : ℕ → Bool) → ((k : ℕ) → q k ≡ r k) → (xs : List ℕ) → filter q xs ≡ filter r xs
filter_same q r same [] = refl
filter_same q r same (x ∷ xs) =
    ap (λ b. cond b (x ∷ filter q xs) (filter q xs)) (same x) ∙ ap (λ l. cond (r x) (x ∷ l) l) (filter_same q r same xs)

up_to : (p : PlanRecord) (s : ℕ) → drawings_where p (λ t. nat_le t s) ≡ needs_before p (s + 1)
up_to p s =
    ap (filter_map (λ k. drawing_of (entry_at p.entries k).job))
    (filter_same (λ k. nat_le (first_section p k) s) (λ k. nat_lt (first_section p k) (s + 1)) (λ k. same (first_section p k)) (range_with_len 0 (length p.entries)))
  where
    same : (t : ℕ) → nat_le t s ≡ nat_lt t (s + 1)
    same t =
        same_truth (nat_le t s) (nat_lt t (s + 1)) (λ is. grind (arith, nat_tests, is)) (λ is. grind (arith, nat_tests, is))

-- a drawing is held in a section where it is known by then and still needed
pub held_listed : (p : PlanRecord) (s d : ℕ) → is_listed (held p s) d ≡ (is_needed_from p s d && is_listed (needs_before p (s + 1)) d)
unfolding held
held_listed p s d =
    listed_filter (λ d. option_map_or (λ last. nat_le s last) (last_section_of p d) true) (each_once (drawings_where p (λ t. nat_le t s))) d
    ∙ ap (λ b. is_needed_from p s d && b)
    (listed_once [] (drawings_where p (λ t. nat_le t s)) d ∙ ap (λ l. is_listed l d) (up_to p s))

-- such a drawing has a last section
has_last : (p : PlanRecord) (s d : ℕ) → s < sections_in p → is_listed (held p s) d ≡ true → last_section_of p d ≡ None → ⊥
has_last p s d within listed none =
    let both = (held-while_needed p s d within).0 (Contains-listed (held p s) d listed) in
    let first = both.0 in
    last_section-needed p first.0 d (omega (arith, first.1, within)) (listed-Contains (needs p first.0) d first.2) none

by_last : (held known : Bool) (o : Option ℕ) (s : ℕ) → held ≡ (option_map_or (λ last. nat_le s last) o true && known) → (held ≡ true → o ≡ None → ⊥)
    → is_some (if known && option_map_or (λ last. nat_le s last) o true then o else None) ≡ held
by_last held false o s is some = sym (is ∙ and_false (option_map_or (λ last. nat_le s last) o true))
  where
    and_false : (a : Bool) → (a && false) ≡ false
    and_false true = refl
    and_false false = refl
by_last held true None s is some = absurd (some is refl)
by_last held true (Some last) s is some = by_test (nat_le s last) is
  where
    by_test : (b : Bool) → held ≡ (b && true) → is_some (if b then Some last else None) ≡ held
    by_test true e = sym e
    by_test false e = sym e

-- what is in a list after a section was loaded is what is held in it
pub in_lists_held : (p : PlanRecord) (s d : ℕ) → s < sections_in p
    → is_some (list_of_drawing p s (needs_before p (s + 1)) d) ≡ is_listed (held p s) d
in_lists_held p s d within =
    by_last (is_listed (held p s) d) (is_listed (needs_before p (s + 1)) d) (last_section_of p d) s (held_listed p s d) (has_last p s d within)

-- ---- once a section has ended

gone_by : (known : Bool) (o now : Option ℕ) (s : ℕ)
    → (now ≡ (if known && option_map_or (λ last. nat_le s last) o true then o else None))
    ⊎ (((if known && option_map_or (λ last. nat_le s last) o true then o else None) ≡ Some s) × (now ≡ None))
    → (now ≡ Some s → ⊥)
    → now ≡ (if known && option_map_or (λ last. nat_le (s + 1) last) o true then o else None)
gone_by false o now s (inl same) not = same
gone_by false o now s (inr gone) not = absurd (cc)
gone_by true None now s (inl same) not = same
gone_by true None now s (inr gone) not = absurd (cc)
gone_by true (Some last) now s is not = by_tests (nat_le s last) refl is
  where
    later : s < last → (if nat_le (s + 1) last then Some last else None) ≡ Some last
    later lt = let test : nat_le (s + 1) last ≡ true = grind (arith, nat_tests, lt) in ap (λ b. if b then Some last else None) test

    over : last ≤ s → (if nat_le (s + 1) last then Some last else None) ≡ None
    over le = let test : nat_le (s + 1) last ≡ false = grind (arith, nat_tests, le) in ap (λ b. if b then Some last else None) test

    by_tests : (b : Bool) → nat_le s last ≡ b → (now ≡ (if b then Some last else None)) ⊎ (((if b then Some last else None) ≡ Some s) × (now ≡ None))
        → now ≡ (if nat_le (s + 1) last then Some last else None)
    by_tests true from (inl same) =
        let apart : last ≡ s → ⊥ = λ is. not (same ∙ ap Some is) in
        let ge : s ≤ last = grind (arith, nat_tests, from) in
        same ∙ sym (later (omega (arith, ge, apart)))
    by_tests true from (inr gone) =
        let is : last ≡ s = same_Some last s gone.0 in gone.1 ∙ sym (over (omega (arith, is)))
    by_tests false from (inl same) =
        let le : last < s = grind (arith, nat_tests, from) in same ∙ sym (over (omega (arith, le)))
    by_tests false from (inr gone) = absurd (let no = gone.0 in cc)

pub gone : (p : PlanRecord) (s d : ℕ) (known : List ℕ) (before now : Option ℕ) → before ≡ list_of_drawing p s known d
    → (now ≡ before) ⊎ ((before ≡ Some s) × (now ≡ None)) → (now ≡ Some s → ⊥) → now ≡ list_of_drawing p (s + 1) known d
gone p s d known before now is change not =
    gone_by (is_listed known d) (last_section_of p d) now s
    (subst (λ (b : Option ℕ). (now ≡ b) ⊎ ((b ≡ Some s) × (now ≡ None))) is change) not

-- those that are left have a later last section
left_by : (held known : Bool) (o : Option ℕ) (s : ℕ) → held ≡ (option_map_or (λ last. nat_le s last) o true && known) → (held ≡ true → o ≡ None → ⊥)
    → is_some (if known && option_map_or (λ last. nat_le (s + 1) last) o true then o else None)
    ≡ (option_map_or (λ last. not (last == s)) o true && held)
left_by held false o s is some = sym (ap (λ b. option_map_or (λ last. not (last == s)) o true && b) (is ∙ and_false (option_map_or (λ last. nat_le s last) o true)) ∙ and_false _)
  where
    and_false : (a : Bool) → (a && false) ≡ false
    and_false true = refl
    and_false false = refl
left_by held true None s is some = absurd (some is refl)
left_by held true (Some last) s is some =
    ap is_some_of same ∙ (shown (not (last == s)) (nat_le s last) ∙ sym (ap (λ b. not (last == s) && b) is))
  where
    is_some_of : Bool → Bool
    is_some_of b = is_some (if b then Some last else None)

    same : nat_le (s + 1) last ≡ (not (last == s) && (nat_le s last && true))
    same = grind (arith, nat_tests)

    shown : (a b : Bool) → is_some (if a && (b && true) then Some last else None) ≡ (a && (b && true))
    shown true true = refl
    shown true false = refl
    shown false b = refl

pub in_lists_left : (p : PlanRecord) (s d : ℕ) → s < sections_in p
    → is_some (list_of_drawing p (s + 1) (needs_before p (s + 1)) d) ≡ is_listed (left_after p s) d
in_lists_left p s d within =
    left_by (is_listed (held p s) d) (is_listed (needs_before p (s + 1)) d) (last_section_of p d) s (held_listed p s d) (has_last p s d within)
    ∙ sym (listed_filter (λ d. option_map_or (λ last. not (last == s)) (last_section_of p d) true) (held p s) d)
