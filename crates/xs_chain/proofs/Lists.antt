-- Lists with one number more or less, and what stands once
use Rattle.std.proofs.Common.{◌≡◌, ◌+◌, ◌<◌, ◌≤◌, ℕ, zero, suc, Bool, true, false, not, cond, ◌||◌, eqb, ltb, Some, None, List, [], ◌∷◌, ◌++◌, length, get_or, refl, sym, ap, ◌∙◌, subst, inl, inr, arith}
use Rattle.std.specs.List.{position, position_or_len}
use Rattle.std.proofs.lemmas.Bool.{eqb-false, eq-eqb, ne_eqb, both_ways, cases_eq, or_parts, or_right, lt-ltb, le-ltb, cond_both, false_from_ne_true}
use Rattle.xs_base.specs.Listed.{is_listed}
use Rattle.xs_chain.specs.Row.{others, Once}

-- ---- a list's members

pub listed_later : (x : ℕ) (xs : List ℕ) (y : ℕ) → (x ≡ y → ⊥) → is_listed (x ∷ xs) y ≡ is_listed xs y
listed_later x xs y apart = ap (λ b. b || is_listed xs y) (ne_eqb x y apart)

pub unlisted_head : (x : ℕ) (xs : List ℕ) (y : ℕ) → is_listed (x ∷ xs) y ≡ false → x ≡ y → ⊥
unlisted_head x xs y none = eqb-false x y (or_parts (eqb x y) (is_listed xs y) none).0

pub unlisted_tail : (x : ℕ) (xs : List ℕ) (y : ℕ) → is_listed (x ∷ xs) y ≡ false → is_listed xs y ≡ false
unlisted_tail x xs y none = (or_parts (eqb x y) (is_listed xs y) none).1

pub listed_head : (x : ℕ) (xs : List ℕ) → is_listed (x ∷ xs) x ≡ true
listed_head x xs = ap (λ b. b || is_listed xs x) (eq-eqb x x refl)

pub listed_tail : (x : ℕ) (xs : List ℕ) (y : ℕ) → is_listed xs y ≡ true → is_listed (x ∷ xs) y ≡ true
listed_tail x xs y listed = or_right (eqb x y) (is_listed xs y) listed

pub listed_push_same : (xs : List ℕ) (m : ℕ) → is_listed (xs ++ m ∷ []) m ≡ true
listed_push_same [] m = listed_head m []
listed_push_same (x ∷ xs) m = listed_tail x (xs ++ m ∷ []) m (listed_push_same xs m)

pub listed_push_other : (xs : List ℕ) (m y : ℕ) → (m ≡ y → ⊥) → is_listed (xs ++ m ∷ []) y ≡ is_listed xs y
listed_push_other [] m y apart = listed_later m [] y apart
listed_push_other (x ∷ xs) m y apart = ap (λ b. eqb x y || b) (listed_push_other xs m y apart)

-- ---- a list without a number

others-head : (m x : ℕ) (xs : List ℕ) → x ≡ m → others m (x ∷ xs) ≡ others m xs
others-head m x xs same = ap (λ b. cond (not b) (x ∷ others m xs) (others m xs)) (eq-eqb x m same)

others-tail : (m x : ℕ) (xs : List ℕ) → (x ≡ m → ⊥) → others m (x ∷ xs) ≡ x ∷ others m xs
others-tail m x xs apart = ap (λ b. cond (not b) (x ∷ others m xs) (others m xs)) (ne_eqb x m apart)

-- what holds of a list without a number, by its first number
pub others-cases :
    (P : List ℕ → Type 0) (m x : ℕ) (xs : List ℕ)
    → (x ≡ m → P (others m xs)) → ((x ≡ m → ⊥) → P (x ∷ others m xs)) → P (others m (x ∷ xs))
others-cases P m x xs is isnt =
    elim (cases_eq x m) [
      | inl same ↦ subst P (sym (others-head m x xs same)) (is same)
      | inr apart ↦ subst P (sym (others-tail m x xs apart)) (isnt apart)
    ]

pub others-unlisted : (m : ℕ) (xs : List ℕ) → is_listed xs m ≡ false → others m xs ≡ xs
others-unlisted m [] none = refl
others-unlisted m (x ∷ xs) none =
    others-tail m x xs (unlisted_head x xs m none) ∙ ap (λ l. x ∷ l) (others-unlisted m xs (unlisted_tail x xs m none))

pub unlisted_others : (m : ℕ) (xs : List ℕ) → is_listed (others m xs) m ≡ false
unlisted_others m [] = refl
unlisted_others m (x ∷ xs) =
    others-cases (λ l. is_listed l m ≡ false) m x xs (λ _. unlisted_others m xs)
    (λ apart. listed_later x (others m xs) m apart ∙ unlisted_others m xs)

pub listed_others : (m : ℕ) (xs : List ℕ) (y : ℕ) → (m ≡ y → ⊥) → is_listed (others m xs) y ≡ is_listed xs y
listed_others m [] y apart = refl
listed_others m (x ∷ xs) y apart =
    others-cases (λ l. is_listed l y ≡ is_listed (x ∷ xs) y) m x xs
    (λ same. listed_others m xs y apart ∙ sym (listed_later x xs y (λ is. apart (sym same ∙ is))))
    (λ _. ap (λ b. eqb x y || b) (listed_others m xs y apart))

-- ---- what stands once

pub Once-push : (xs : List ℕ) (m : ℕ) → Once xs → is_listed xs m ≡ false → Once (xs ++ m ∷ [])
Once-push [] m once none = (refl, tt)
Once-push (x ∷ xs) m once none = (
  listed_push_other xs m x (λ is. unlisted_head x xs m none (sym is)) ∙ once.0,
  Once-push xs m once.1 (unlisted_tail x xs m none),
)

pub Once-others : (m : ℕ) (xs : List ℕ) → Once xs → Once (others m xs)
Once-others m [] once = tt
Once-others m (x ∷ xs) once =
    others-cases Once m x xs (λ _. Once-others m xs once.1)
    (λ apart. (listed_others m xs x (λ is. apart (sym is)) ∙ once.0, Once-others m xs once.1))

length-others : (m : ℕ) (xs : List ℕ) → Once xs → length xs ≤ suc (length (others m xs))
length-others m [] once = omega arith
length-others m (x ∷ xs) once =
    others-cases (λ l. suc (length xs) ≤ suc (length l)) m x xs
    (λ same.
    let all : others m xs ≡ xs = others-unlisted m xs (subst (λ (y : ℕ). is_listed xs y ≡ false) same once.0) in
    omega (arith, ap length all))
    (λ _. let fewer : length xs ≤ suc (length (others m xs)) = length-others m xs once.1 in omega arith)

-- a list of numbers below another, each once, is no longer than that
pub length-once : (n : ℕ) (xs : List ℕ) → ((y : ℕ) → is_listed xs y ≡ true → y < n) → Once xs → length xs ≤ n
length-once zero [] below once = omega arith
length-once zero (x ∷ xs) below once = absurd (let no : x < 0 = below x (listed_head x xs) in omega arith)
length-once (suc n) xs below once =
    let fewer : length (others n xs) ≤ n =
    length-once n (others n xs)
    (λ y listed.
    let apart : n ≡ y → ⊥ =
    λ same.
    both_ways _ (unlisted_others n xs) (subst (λ (z : ℕ). is_listed (others n xs) z ≡ true) (sym same) listed) in
    let smaller : y < suc n = below y (sym (listed_others n xs y apart) ∙ listed) in
    omega (arith, apart))
    (Once-others n xs once) in
    omega (arith, length-others n xs once)

-- ---- the first list with a member

pub place_found :
    (p : List ℕ → Bool) (ls : List (List ℕ)) (l : ℕ) → l < length ls → p (get_or ls l []) ≡ true
    → ((k : ℕ) → k < l → p (get_or ls k []) ≡ false) → position_or_len p ls ≡ l
place_found p [] l inside here none = absurd (omega arith)
place_found p (x ∷ ls) zero inside here none = ap (λ b. cond (not b) (1 + position_or_len p ls) 0) here
place_found p (x ∷ ls) (suc l) inside here none =
    let later : position_or_len p ls ≡ l = place_found p ls l (omega arith) here (λ k lt. none (suc k) (omega arith)) in
    ap (λ b. cond (not b) (1 + position_or_len p ls) 0) (none 0 (omega arith)) ∙ omega arith

pub position_found :
    (p : List ℕ → Bool) (ls : List (List ℕ)) (l : ℕ) → l < length ls → p (get_or ls l []) ≡ true
    → ((k : ℕ) → k < l → p (get_or ls k []) ≡ false) → position p ls ≡ Some l
position_found p ls l inside here none =
    ap (λ k. cond (ltb k (length ls)) (Some k) None) (place_found p ls l inside here none)
    ∙ ap (λ b. cond b (Some l) None) (lt-ltb l (length ls) inside)

place_none :
    (p : List ℕ → Bool) (ls : List (List ℕ)) → ((k : ℕ) → k < length ls → p (get_or ls k []) ≡ false)
    → position_or_len p ls ≡ length ls
place_none p [] none = refl
place_none p (x ∷ ls) none =
    let later : position_or_len p ls ≡ length ls = place_none p ls (λ k lt. none (suc k) (omega arith)) in
    ap (λ b. cond (not b) (1 + position_or_len p ls) 0) (none 0 (omega arith)) ∙ omega arith

pub position_none :
    (p : List ℕ → Bool) (ls : List (List ℕ)) → ((k : ℕ) → k < length ls → p (get_or ls k []) ≡ false) → position p ls ≡ None
position_none p ls none =
    ap (λ k. cond (ltb k (length ls)) (Some k) None) (place_none p ls none)
    ∙ ap (λ b. cond b (Some (length ls)) None) (le-ltb (length ls) (length ls) (omega arith))

place_at_most : (p : List ℕ → Bool) (ls : List (List ℕ)) (k : ℕ) → k < length ls → p (get_or ls k []) ≡ true → position_or_len p ls ≤ k
place_at_most p [] k inside here = absurd (omega arith)
place_at_most p (x ∷ ls) zero inside here =
    let first : position_or_len p (x ∷ ls) ≡ 0 = ap (λ b. cond (not b) (1 + position_or_len p ls) 0) here in
    omega arith
place_at_most p (x ∷ ls) (suc k) inside here =
    let later : position_or_len p ls ≤ k = place_at_most p ls k (omega arith) here in
    cond_both (not (p x)) (1 + position_or_len p ls) 0 (λ n. n ≤ suc k) (λ _. omega arith) (λ _. omega arith)

-- a member that is in no list is in none of them
pub none_found :
    (p : List ℕ → Bool) (ls : List (List ℕ)) → position p ls ≡ None → (k : ℕ) → k < length ls → p (get_or ls k []) ≡ false
none_found p ls none k inside =
    false_from_ne_true (p (get_or ls k []))
    (λ here.
    let at : position_or_len p ls ≤ k = place_at_most p ls k inside here in
    let found : position p ls ≡ Some (position_or_len p ls) =
    ap (λ b. cond b (Some (position_or_len p ls)) None) (lt-ltb (position_or_len p ls) (length ls) (omega arith)) in
    let no : Some (position_or_len p ls) ≡ None = sym found ∙ none in
    (cc))
