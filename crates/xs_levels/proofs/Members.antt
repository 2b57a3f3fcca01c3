-- Which list of a row a member is in, with one member more or less
use Rattle.std.proofs.Common.{◌≡◌, ℕ, zero, suc, ◌+◌, ◌<◌, ◌≤◌, ◌==◌, Bool, true, false, not, cond, ◌||◌, if◌then◌else◌, eqb, ltb, Option, Some, None, List, [], ◌∷◌, ◌++◌, length, map, set, get_or, refl, sym, ap, ◌∙◌, subst, inl, inr, arith}
use Rattle.std.specs.List.{position, position_or_len}
use Rattle.std.proofs.lemmas.Bool.{eq-eqb, ne_eqb, cases_eq, cases_lt, lt-ltb, le-ltb, both_ways, cond_both}
use Rattle.std.proofs.lemmas.List.{length-map, length-set, get_or-set_same, get_or-set_other, get_or-map}
use Rattle.std.proofs.lemmas.Option.{same_Some}
use Rattle.xs_base.specs.Listed.{is_listed}
use Rattle.xs_chain.specs.Row.{Row, IsRow, list_at, list_with, with_last, without, others, head}
use Rattle.xs_chain.proofs.Lists.{listed_push_same, listed_push_other, listed_others, others-cases, position_found, none_found, listed_head}
use Rattle.xs_chain.proofs.Kept.{list_with-without}

-- ---- the first list that passes a test

same_place : (p q : List ℕ → Bool) (xs ys : List (List ℕ)) → length xs ≡ length ys
    → ((k : ℕ) → k < length xs → p (get_or xs k []) ≡ q (get_or ys k [])) → position_or_len p xs ≡ position_or_len q ys
same_place p q [] [] long same = refl
same_place p q [] (y ∷ ys) long same = absurd (omega arith)
same_place p q (x ∷ xs) [] long same = absurd (omega arith)
same_place p q (x ∷ xs) (y ∷ ys) long same =
    let later : position_or_len p xs ≡ position_or_len q ys = same_place p q xs ys (omega arith) (λ k lt. same (suc k) (omega arith)) in
    ap (λ b. cond (not b) (1 + position_or_len p xs) 0) (same 0 (omega arith)) ∙ ap (λ n. cond (not (q y)) (1 + n) 0) later

same_position : (p q : List ℕ → Bool) (xs ys : List (List ℕ)) → length xs ≡ length ys
    → ((k : ℕ) → k < length xs → p (get_or xs k []) ≡ q (get_or ys k [])) → position p xs ≡ position q ys
same_position p q xs ys long same =
    ap (λ n. cond (ltb n (length xs)) (Some n) None) (same_place p q xs ys long same)
    ∙ ap (λ n. cond (ltb (position_or_len q ys) n) (Some (position_or_len q ys)) None) long

passes_by : (p : List ℕ → Bool) (x : List ℕ) (xs : List (List ℕ)) (b : Bool) → p x ≡ b
    → (position_or_len p xs < length xs → p (get_or xs (position_or_len p xs) []) ≡ true)
    → position_or_len p (x ∷ xs) < suc (length xs) → p (get_or (x ∷ xs) (position_or_len p (x ∷ xs)) []) ≡ true
passes_by p x xs true is later within =
    let here : position_or_len p (x ∷ xs) ≡ 0 = ap (λ b. cond (not b) (1 + position_or_len p xs) 0) is in
    ap (λ n. p (get_or (x ∷ xs) n [])) here ∙ is
passes_by p x xs false isnt later within =
    let next : position_or_len p (x ∷ xs) ≡ 1 + position_or_len p xs = ap (λ b. cond (not b) (1 + position_or_len p xs) 0) isnt in
    let one : 1 + position_or_len p xs ≡ suc (position_or_len p xs) = omega arith in
    ap (λ n. p (get_or (x ∷ xs) n [])) (next ∙ one) ∙ later (omega (arith, next, within))

passes_there : (p : List ℕ → Bool) (xs : List (List ℕ)) → position_or_len p xs < length xs → p (get_or xs (position_or_len p xs) []) ≡ true
passes_there p [] within = absurd (omega arith)
passes_there p (x ∷ xs) within = passes_by p x xs (p x) refl (passes_there p xs) within

found_there : (p : List ℕ → Bool) (xs : List (List ℕ)) (l : ℕ) → position p xs ≡ Some l → p (get_or xs l []) ≡ true
found_there p xs l found =
    elim (cases_lt (position_or_len p xs) (length xs)) [
      | inl within ↦
          let is : Some (position_or_len p xs) ≡ Some l =
          sym (ap (λ b. cond b (Some (position_or_len p xs)) None) (lt-ltb (position_or_len p xs) (length xs) within)) ∙ found in
          subst (λ (n : ℕ). p (get_or xs n []) ≡ true) (same_Some _ _ is) (passes_there p xs within)
      | inr past ↦
          let no : None ≡ Some l = sym (ap (λ b. cond b (Some (position_or_len p xs)) None) (le-ltb (position_or_len p xs) (length xs) past)) ∙ found in
          absurd (cc)
    ]

-- ---- a member more

pub listed_with_last : (row : Row) (l m e : ℕ) → l < length row.lists → list_with row m ≡ None
    → list_with (with_last row l m) e ≡ (if m == e then Some l else list_with row e)
listed_with_last row l m e inside free =
    elim (cases_eq m e) [
      | inl same ↦ subst (λ (x : ℕ). list_with (with_last row l m) x ≡ (if m == x then Some l else list_with row x)) same (here ∙ sym (ap (λ b. if b then Some l else list_with row m) (eq-eqb m m refl)))
      | inr apart ↦ there apart ∙ sym (ap (λ b. if b then Some l else list_with row e) (ne_eqb m e apart))
    ]
  where
    grown : List ℕ
    grown = list_at row l ++ m ∷ []

    lists : List (List ℕ)
    lists = set row.lists l grown

    here : list_with (with_last row l m) m ≡ Some l
    here =
        position_found (λ xs. is_listed xs m) lists l (omega (arith, inside, length-set row.lists l grown))
        (ap (λ xs. is_listed xs m) (get_or-set_same row.lists l grown [] inside) ∙ listed_push_same (list_at row l) m)
        (λ k lt.
        ap (λ xs. is_listed xs m) (get_or-set_other row.lists l k grown [] (λ is. absurd (omega (arith, lt, is))))
        ∙ none_found (λ xs. is_listed xs m) row.lists free k (omega (arith, lt, inside)))

    at : (k : ℕ) → (m ≡ e → ⊥) → is_listed (get_or lists k []) e ≡ is_listed (get_or row.lists k []) e
    at k apart =
        elim (cases_eq k l) [
          | inl same ↦
              subst (λ (j : ℕ). is_listed (get_or lists j []) e ≡ is_listed (get_or row.lists j []) e) (sym same)
              (ap (λ xs. is_listed xs e) (get_or-set_same row.lists l grown [] inside) ∙ listed_push_other (list_at row l) m e apart)
          | inr other ↦ ap (λ xs. is_listed xs e) (get_or-set_other row.lists l k grown [] other)
        ]

    there : (m ≡ e → ⊥) → list_with (with_last row l m) e ≡ list_with row e
    there apart =
        same_position (λ xs. is_listed xs e) (λ xs. is_listed xs e) lists row.lists (length-set row.lists l grown) (λ k lt. at k apart)

-- ---- a member less

pub listed_without : (row : Row) (m e : ℕ) → list_with (without row m) e ≡ (if m == e then None else list_with row e)
listed_without row m e =
    elim (cases_eq m e) [
      | inl same ↦ subst (λ (x : ℕ). list_with (without row m) x ≡ (if m == x then None else list_with row x)) same (list_with-without row m ∙ sym (ap (λ b. if b then None else list_with row m) (eq-eqb m m refl)))
      | inr apart ↦ there apart ∙ sym (ap (λ b. if b then None else list_with row e) (ne_eqb m e apart))
    ]
  where
    there : (m ≡ e → ⊥) → list_with (without row m) e ≡ list_with row e
    there apart =
        same_position (λ xs. is_listed xs e) (λ xs. is_listed xs e) (map (others m) row.lists) row.lists (length-map row.lists (others m))
        (λ k lt.
        let within : k < length row.lists = omega (arith, lt, length-map row.lists (others m)) in
        ap (λ xs. is_listed xs e) (get_or-map (others m) row.lists k [] [] within) ∙ listed_others m (get_or row.lists k []) e apart)

-- ---- the first of a list

pub head_listed : (xs : List ℕ) (d : ℕ) → head xs ≡ Some d → is_listed xs d ≡ true
head_listed [] d is = absurd (cc)
head_listed (x ∷ xs) d is = let same : x ≡ d = same_Some x d is in subst (λ (n : ℕ). is_listed (x ∷ xs) n ≡ true) same (listed_head x xs)

-- no member is in a list without a first
pub none_listed : (row : Row) (l e : ℕ) → head (list_at row l) ≡ None → list_with row e ≡ Some l → ⊥
none_listed row l e empty found =
    let there : is_listed (list_at row l) e ≡ true = found_there (λ xs. is_listed xs e) row.lists l found in
    none (list_at row l) empty there
  where
    none : (xs : List ℕ) → head xs ≡ None → is_listed xs e ≡ true → ⊥
    none [] is listed = absurd (cc)
    none (x ∷ xs) is listed = absurd (cc)

-- a list without one of its members is shorter
fewer : (m : ℕ) (xs : List ℕ) → length (others m xs) ≤ length xs
fewer m [] = omega arith
fewer m (x ∷ xs) =
    let rest : length (others m xs) ≤ length xs = fewer m xs in
    others-cases (λ ys. length ys ≤ suc (length xs)) m x xs (λ same. omega (arith, rest)) (λ apart. omega (arith, rest))

pub shorter : (m : ℕ) (xs : List ℕ) → is_listed xs m ≡ true → length (others m xs) < length xs
shorter m [] listed = absurd (cc)
shorter m (x ∷ xs) listed =
    others-cases (λ ys. length ys < suc (length xs)) m x xs (λ same. let rest : length (others m xs) ≤ length xs = fewer m xs in omega (arith, rest))
    (λ apart.
    let later : is_listed xs m ≡ true = sym (ap (λ b. b || is_listed xs m) (ne_eqb x m apart)) ∙ listed in
    let rest : length (others m xs) < length xs = shorter m xs later in omega (arith, rest))

pub shorter_at : (row : Row) (l m : ℕ) → l < length row.lists → is_listed (list_at row l) m ≡ true
    → length (list_at (without row m) l) < length (list_at row l)
shorter_at row l m inside listed =
    subst (λ (xs : List ℕ). length xs < length (list_at row l)) (sym (get_or-map (others m) row.lists l [] [] inside)) (shorter m (list_at row l) listed)
