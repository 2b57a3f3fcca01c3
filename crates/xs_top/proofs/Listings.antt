-- Lists without the numbers that are known.
use Rattle.std.proofs.Common.{◌≡◌, ◌==◌, ℕ, Bool, true, false, cond, if◌then◌else◌, ◌||◌, List, [], ◌∷◌, ◌++◌, refl, sym, subst, ◌∙◌, arith}
use Rattle.std.proofs.lemmas.Bool.Decides.{nat_tests}
use Rattle.std.proofs.lemmas.List.{append_cancel_left}
use Rattle.std.proofs.lemmas.List.Folds.{list_any-append}
use Rattle.xs_base.specs.Listed.{is_listed}
use Rattle.xs_base.specs.Once.{fresh}

pub listed-append : (a b : List ℕ) (d : ℕ) → is_listed (a ++ b) d ≡ (is_listed a d || is_listed b d)
listed-append a b d = list_any-append _ a b

-- behind a list all of its numbers are known
abbrev pub AllKnown : Type 0
AllKnown = (known xs ys : List ℕ) → fresh known (xs ++ ys) ≡ fresh known xs ++ fresh (known ++ xs) ys

-- what the law of numbers that are taken once says of two lists: behind the first one all of its numbers are
-- known, or the new ones of them
pub record TakenOnce : Type 0 where
  pub all : AllKnown
  pub new : (known xs ys : List ℕ) → fresh known (xs ++ ys) ≡ fresh known xs ++ fresh (known ++ fresh known xs) ys

taken_if_new : (e : ℕ) (a b : Bool) → cond a [] (e ∷ []) ≡ cond b [] (e ∷ []) → a ≡ b
taken_if_new e true true same = refl
taken_if_new e true false same = absurd cc
taken_if_new e false true same = absurd cc
taken_if_new e false false same = refl

-- known numbers and the new ones of a list are the known ones and those of the list
pub fresh_listed : TakenOnce → (known xs : List ℕ) (e : ℕ) → is_listed (known ++ fresh known xs) e ≡ is_listed (known ++ xs) e
unfolding fresh
fresh_listed once known xs e =
    taken_if_new e (is_listed (known ++ fresh known xs) e) (is_listed (known ++ xs) e)
    (append_cancel_left (fresh known xs) _ _ (sym (once.new known xs (e ∷ [])) ∙ once.all known xs (e ∷ [])))

-- ---- a new number of a list stands in the list, and is not known

or_left_false : (a b : Bool) → (a || b) ≡ false → a ≡ false
or_left_false false b e = refl
or_left_false true b e = absurd cc

or_right_true : (a b : Bool) → b ≡ true → (a || b) ≡ true
or_right_true true b e = refl
or_right_true false b e = e

first_new : (known xs : List ℕ) (x d : ℕ) (t : Bool) → (x == d) ≡ t → is_listed known x ≡ false
    → (is_listed (fresh (known ++ x ∷ []) xs) d ≡ true → (is_listed (known ++ x ∷ []) d ≡ false) × (is_listed xs d ≡ true))
    → (t || is_listed (fresh (known ++ x ∷ []) xs) d) ≡ true → (is_listed known d ≡ false) × ((t || is_listed xs d) ≡ true)
first_new known xs x d true same unknown later listed =
    let here : x ≡ d = grind (arith, nat_tests) in
    (subst (λ (n : ℕ). is_listed known n ≡ false) here unknown, refl)
first_new known xs x d false other unknown later listed =
    let rest = later listed in
    (or_left_false (is_listed known d) _ (sym (listed-append known (x ∷ []) d) ∙ rest.0), rest.1)

step_new : (known xs : List ℕ) (x d : ℕ) (t : Bool) → is_listed known x ≡ t
    → ((known : List ℕ) → is_listed (fresh known xs) d ≡ true → (is_listed known d ≡ false) × (is_listed xs d ≡ true))
    → is_listed (if t then fresh known xs else x ∷ fresh (known ++ x ∷ []) xs) d ≡ true
    → (is_listed known d ≡ false) × (is_listed (x ∷ xs) d ≡ true)
step_new known xs x d true is later listed =
    let rest = later known listed in (rest.0, or_right_true (x == d) _ rest.1)
step_new known xs x d false is later listed =
    first_new known xs x d (x == d) refl is (later (known ++ x ∷ [])) listed

-- a new number of a list stands in the list, and is not known
pub fresh_new : (xs : List ℕ) (d : ℕ) (known : List ℕ) → is_listed (fresh known xs) d ≡ true → (is_listed known d ≡ false) × (is_listed xs d ≡ true)
unfolding fresh
fresh_new [] d known listed = absurd cc
fresh_new (x ∷ xs) d known listed = step_new known xs x d (is_listed known x) refl (fresh_new xs d) listed
