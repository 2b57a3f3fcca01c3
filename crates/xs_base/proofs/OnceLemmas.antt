-- Numbers that are taken once
use Rattle.std.proofs.Common.{◌≡◌, ◌≢◌, ℕ, suc, Bool, true, false, ◌||◌, cond, eqb, get_or, List, [], ◌∷◌, ◌++◌, All, AllPairs, Contains, refl, sym, ap, ap₂, ◌∙◌, subst, append_assoc, append-nil, ⊎_elim, arith}
use Rattle.std.specs.Cmp.{both_ways as same_tests}
use Rattle.std.proofs.lemmas.Bool.{eqb-true, eq-eqb, both_ways, cond_both}
use Rattle.std.proofs.lemmas.List.{get_or_default}
use Rattle.std.proofs.lemmas.List.Elements.{All-contains, All-head, All-tail, All-cons, Contains-push, Contains-append_left, Contains-append_right, Contains-append_cases, Contains-push_cases}
use Rattle.std.proofs.lemmas.List.Folds.{list_any_at, list_any-append}
use Rattle.std.proofs.lemmas.List.Quantifiers.{all_pairs_push}
use Rattle.xs_base.specs.Listed.{is_listed}
use Rattle.xs_base.specs.Once.{fresh, each_once, with_one, with_each}

contains_first :
    (x : ℕ) (xs : List ℕ) (d : ℕ) (b : Bool) → eqb x d ≡ b → (b || is_listed xs d) ≡ true
    → (is_listed xs d ≡ true → Contains xs d) → Contains (x ∷ xs) d
contains_first x xs d true same listed rest = (0, omega arith, eqb-true x d same)
contains_first x xs d false same listed rest = let at = rest listed in (suc at.0, omega (arith, at.1), at.2)

pub Contains-listed : (known : List ℕ) (d : ℕ) → is_listed known d ≡ true → Contains known d
Contains-listed [] d listed = cc
Contains-listed (x ∷ xs) d listed = contains_first x xs d (eqb x d) refl listed (Contains-listed xs d)

listed-Contains : (known : List ℕ) (d : ℕ) → Contains known d → is_listed known d ≡ true
listed-Contains known d at =
    list_any_at (λ m. eqb m d) known at.0 d at.1 (eq-eqb (get_or known at.0 d) d at.2)

pub unlisted-Contains : (known : List ℕ) (d : ℕ) → is_listed known d ≡ false → Contains known d → ⊥
unlisted-Contains known d fails at = both_ways (is_listed known d) fails (listed-Contains known d at)

-- ---- one number after another

-- a list's next number is taken if it is new
fresh-cases :
    (P : List ℕ → Type 0) (known : List ℕ) (x : ℕ) (xs : List ℕ)
    → (is_listed known x ≡ true → P (fresh known xs))
    → (is_listed known x ≡ false → P (x ∷ fresh (known ++ x ∷ []) xs))
    → P (fresh known (x ∷ xs))
unfolding fresh
fresh-cases P known x xs listed new =
    cond_both (is_listed known x) (fresh known xs) (x ∷ fresh (known ++ x ∷ []) xs) P listed new

pub with_each-nil : (known : List ℕ) → with_each known [] ≡ known
unfolding fresh
with_each-nil known = append-nil known

pub with_each-one : (known : List ℕ) (d : ℕ) → with_each known (d ∷ []) ≡ with_one known d
unfolding fresh
with_each-one known d =
    by_cases (is_listed known d)
  where
    by_cases : (b : Bool) → known ++ cond b [] (d ∷ []) ≡ cond b known (known ++ d ∷ [])
    by_cases true = append-nil known
    by_cases false = refl

pub fresh-append :
    (known xs ys : List ℕ) → fresh known (xs ++ ys) ≡ fresh known xs ++ fresh (known ++ fresh known xs) ys
unfolding fresh
fresh-append known [] ys = ap (λ l. fresh l ys) (sym (append-nil known))
fresh-append known (x ∷ xs) ys =
    by_cases (is_listed known x) (fresh-append known xs ys)
    (fresh-append after xs ys ∙ ap (λ l. fresh after xs ++ fresh l ys) (append_assoc known (x ∷ []) (fresh after xs)))
  where
    after : List ℕ
    after = known ++ x ∷ []

    by_cases : (b : Bool)
        → fresh known (xs ++ ys) ≡ fresh known xs ++ fresh (known ++ fresh known xs) ys
        → fresh after (xs ++ ys) ≡ fresh after xs ++ fresh (known ++ x ∷ fresh after xs) ys
        → cond b (fresh known (xs ++ ys)) (x ∷ fresh after (xs ++ ys))
        ≡ cond b (fresh known xs) (x ∷ fresh after xs) ++ fresh (known ++ cond b (fresh known xs) (x ∷ fresh after xs)) ys
    by_cases true listed new = listed
    by_cases false listed new = ap (λ l. x ∷ l) new

pub with_each-append : (known xs ys : List ℕ) → with_each known (xs ++ ys) ≡ with_each (with_each known xs) ys
with_each-append known xs ys =
    ap (λ l. known ++ l) (fresh-append known xs ys)
    ∙ sym (append_assoc known (fresh known xs) (fresh (known ++ fresh known xs) ys))

pub fresh-known : (known xs : List ℕ) → All (Contains known) xs → fresh known xs ≡ []
unfolding fresh
fresh-known known [] all = refl
fresh-known known (x ∷ xs) all =
    ap (λ b. cond b (fresh known xs) (x ∷ fresh (known ++ x ∷ []) xs))
    (listed-Contains known x (All-head (Contains known) x xs all))
    ∙ fresh-known known xs (All-tail (Contains known) x xs all)

pub with_each-known : (known xs : List ℕ) → All (Contains known) xs → with_each known xs ≡ known
with_each-known known xs all = ap (λ l. known ++ l) (fresh-known known xs all) ∙ append-nil known

pub fresh-has : (known xs : List ℕ) → All (Contains (known ++ fresh known xs)) xs
fresh-has known [] = λ k d lt. absurd (omega arith)
fresh-has known (x ∷ xs) =
    fresh-cases (λ l. All (Contains (known ++ l)) (x ∷ xs)) known x xs
    (λ listed. with_all known (fresh known xs) (Contains-listed known x listed) (fresh-has known xs))
    (λ new. subst (λ (l : List ℕ). All (Contains l) (x ∷ xs)) (append_assoc known (x ∷ []) (fresh (known ++ x ∷ []) xs))
    (with_all (known ++ x ∷ []) (fresh (known ++ x ∷ []) xs) (Contains-push known x) (fresh-has (known ++ x ∷ []) xs)))
  where
    with_all : (front back : List ℕ) → Contains front x → All (Contains (front ++ back)) xs → All (Contains (front ++ back)) (x ∷ xs)
    with_all front back first rest =
        All-cons (Contains (front ++ back)) x xs (Contains-append_left front back x first) rest

pub Contains-fresh : (known xs : List ℕ) (d : ℕ) → Contains (fresh known xs) d → Contains xs d
unfolding fresh
Contains-fresh known [] d = λ at. at
Contains-fresh known (x ∷ xs) d =
    fresh-cases (λ l. Contains l d → Contains (x ∷ xs) d) known x xs
    (λ listed at. Contains-append_right (x ∷ []) xs d (Contains-fresh known xs d at))
    (λ new at.
    ⊎_elim (λ here. Contains-append_left (x ∷ []) xs d here)
    (λ later. Contains-append_right (x ∷ []) xs d (Contains-fresh (known ++ x ∷ []) xs d later))
    (Contains-append_cases (x ∷ []) (fresh (known ++ x ∷ []) xs) d at))

-- only which numbers are known matters
fresh-same :
    (known other xs : List ℕ) → ((d : ℕ) → is_listed known d ≡ is_listed other d) → fresh known xs ≡ fresh other xs
unfolding fresh
fresh-same known other [] same = refl
fresh-same known other (x ∷ xs) same =
    ap (λ b. cond b (fresh known xs) (x ∷ fresh (known ++ x ∷ []) xs)) (same x)
    ∙ ap₂ (λ l m. cond (is_listed other x) l (x ∷ m)) (fresh-same known other xs same)
    (fresh-same (known ++ x ∷ []) (other ++ x ∷ []) xs
    (λ d.
    list_any-append (λ m. eqb m d) known (x ∷ []) ∙ ap (λ b. b || is_listed (x ∷ []) d) (same d)
    ∙ sym (list_any-append (λ m. eqb m d) other (x ∷ []))))

pub fresh-append_all : (known xs ys : List ℕ) → fresh known (xs ++ ys) ≡ fresh known xs ++ fresh (known ++ xs) ys
fresh-append_all known xs ys =
    fresh-append known xs ys
    ∙ ap (λ l. fresh known xs ++ l)
    (fresh-same (known ++ fresh known xs) (known ++ xs) ys
    (λ d. same_tests (is_listed (known ++ fresh known xs) d) (is_listed (known ++ xs) d) (taken d) (all d)))
  where
    either : (front back other : List ℕ) (d : ℕ) → (Contains front d → Contains other d) → (Contains back d → Contains other d)
        → is_listed (front ++ back) d ≡ true → is_listed other d ≡ true
    either front back other d first second listed =
        listed-Contains other d
        (⊎_elim first second (Contains-append_cases front back d (Contains-listed (front ++ back) d listed)))

    taken : (d : ℕ) → is_listed (known ++ fresh known xs) d ≡ true → is_listed (known ++ xs) d ≡ true
    taken d =
        either known (fresh known xs) (known ++ xs) d (Contains-append_left known xs d)
        (λ at. Contains-append_right known xs d (Contains-fresh known xs d at))

    all : (d : ℕ) → is_listed (known ++ xs) d ≡ true → is_listed (known ++ fresh known xs) d ≡ true
    all d =
        either known xs (known ++ fresh known xs) d (Contains-append_left known (fresh known xs) d)
        (λ at. All-contains (Contains (known ++ fresh known xs)) xs d (fresh-has known xs) at)

choose :
    (b : Bool) (u v u' v' : List ℕ) → (b ≡ true → u ≡ u') → (b ≡ false → v ≡ v') → cond b u v ≡ cond b u' v'
choose true u v u' v' passes fails = passes refl
choose false u v u' v' passes fails = fails refl

abbrev Leads : List ℕ → List ℕ → Type 0
Leads other known = (d : ℕ) → is_listed other d ≡ true → is_listed known d ≡ true

leads_more : (other known : List ℕ) (x : ℕ) → Leads other known → is_listed known x ≡ true → Leads (other ++ x ∷ []) known
leads_more other known x leads here d listed =
    ⊎_elim (λ at. leads d (listed-Contains other d at))
    (λ same. subst (λ (e : ℕ). is_listed known e ≡ true) same here)
    (Contains-push_cases other x d (Contains-listed (other ++ x ∷ []) d listed))

leads_to_more : (other known : List ℕ) (x : ℕ) → Leads other known → Leads other (known ++ x ∷ [])
leads_to_more other known x leads d listed =
    listed-Contains (known ++ x ∷ []) d
    (Contains-append_left known (x ∷ []) d (Contains-listed known d (leads d listed)))

-- the new numbers of a list from which some known ones were left out are those of the list
fresh-fresh : (known other xs : List ℕ) → Leads other known → fresh known (fresh other xs) ≡ fresh known xs
unfolding fresh
fresh-fresh known other [] leads = refl
fresh-fresh known other (x ∷ xs) leads =
    let after = known ++ x ∷ [] in
    let other_after = other ++ x ∷ [] in
    fresh-cases (λ l. fresh known l ≡ cond (is_listed known x) (fresh known xs) (x ∷ fresh after xs)) other x xs
    (λ listed.
    fresh-fresh known other xs leads
    ∙ sym (ap (λ b. cond b (fresh known xs) (x ∷ fresh after xs)) (leads x listed)))
    (λ new.
    choose (is_listed known x) (fresh known (fresh other_after xs)) (x ∷ fresh after (fresh other_after xs))
    (fresh known xs) (x ∷ fresh after xs)
    (λ listed. fresh-fresh known other_after xs (leads_more other known x leads listed))
    (λ unknown.
    ap (λ l. x ∷ l)
    (fresh-fresh after other_after xs
    (leads_more other after x (leads_to_more other known x leads) (listed-Contains after x (Contains-push known x))))))

pub fresh-each_once : (known xs : List ℕ) → fresh known (each_once xs) ≡ fresh known xs
fresh-each_once known xs = fresh-fresh known [] xs (λ d listed. cc)

-- no number stands twice
with_each-once :
    (known xs : List ℕ) → AllPairs (λ a b. a ≢ b) known → AllPairs (λ a b. a ≢ b) (with_each known xs)
with_each-once known [] once = subst (AllPairs (λ a b. a ≢ b)) (sym (with_each-nil known)) once
with_each-once known (x ∷ xs) once =
    fresh-cases (λ l. AllPairs (λ a b. a ≢ b) (known ++ l)) known x xs
    (λ listed. with_each-once known xs once)
    (λ new.
    subst (AllPairs (λ a b. a ≢ b)) (append_assoc known (x ∷ []) (fresh (known ++ x ∷ []) xs))
    (with_each-once (known ++ x ∷ []) xs
    (all_pairs_push (λ a b. a ≢ b) known x once
    (λ k d lt same. unlisted-Contains known x new (k, lt, get_or_default known k x d lt ∙ same)))))

pub each_once-once : (xs : List ℕ) → AllPairs (λ a b. a ≢ b) (each_once xs)
each_once-once xs = with_each-once [] xs (λ i j d lt long. absurd (omega arith))
