-- What the arrays show of the lists that they hold
use Rattle.std.proofs.Common.{◌≡◌, ◌+◌, ◌<◌, ◌≤◌, ℕ, zero, suc, true, cond, Option, Some, None, List, [], ◌∷◌, length, drop, get_or, refl, sym, ap, ◌∙◌, inl, inr, arith, length-drop}
use Rattle.std.specs.List.{position}
use Rattle.std.proofs.lemmas.Bool.{eqb-true, eq-eqb, ne_eqb, cases_eq, lt-ltb, le-ltb}
use Rattle.std.proofs.lemmas.List.{length-map, get_or-map, get_or-drop, ext_get_or}
use Rattle.xs_base.specs.Listed.{is_listed}
use Rattle.xs_chain.specs.Row.{head, after}
use Rattle.xs_chain.specs.Ring.{node_at, walk, shown, Linked, is_owner, owner_at, member_of, Holds}
use Rattle.xs_chain.proofs.Lists.{listed_head, listed_tail, listed_later, length-once, position_found, position_none}

-- every number of a list is a member's
Below : ℕ → List ℕ → Type 0
Below members xs = (y : ℕ) → is_listed xs y ≡ true → y < members

below_tail : (members x : ℕ) (xs : List ℕ) → Below members (x ∷ xs) → Below members xs
unfolding Below
below_tail members x xs below y listed = below y (listed_tail x xs y listed)

below_head : (members x : ℕ) (xs : List ℕ) → Below members (x ∷ xs) → x < members
unfolding Below
below_head members x xs below = below x (listed_head x xs)

walk-past : (nexts : List ℕ) (members steps z : ℕ) → members ≤ z → walk nexts members steps z ≡ []
unfolding walk
walk-past nexts members zero z past = refl
walk-past nexts members (suc steps) z past =
    ap (λ b. cond b (z ∷ walk nexts members steps (node_at nexts z)) []) (le-ltb z members past)

walk-member :
    (nexts : List ℕ) (members steps x : ℕ) → x < members
    → walk nexts members (suc steps) x ≡ x ∷ walk nexts members steps (node_at nexts x)
unfolding walk
walk-member nexts members steps x below =
    ap (λ b. cond b (x ∷ walk nexts members steps (node_at nexts x)) []) (lt-ltb x members below)

-- a walk goes through the members of a ring
walk-linked :
    (nexts : List ℕ) (before : ℕ → ℕ) (members steps a : ℕ) (xs : List ℕ) (z : ℕ) → members ≤ z → length xs ≤ steps
    → Below members xs → Linked (node_at nexts) before a xs z → walk nexts members steps (node_at nexts a) ≡ xs
walk-linked nexts before members steps a [] z past long below linked =
    ap (λ y. walk nexts members steps y) linked.0 ∙ walk-past nexts members steps z past
walk-linked nexts before members zero a (x ∷ xs) z past long below linked = absurd (omega arith)
walk-linked nexts before members (suc steps) a (x ∷ xs) z past long below linked =
    ap (λ y. walk nexts members (suc steps) y) linked.0
    ∙ walk-member nexts members steps x (below_head members x xs below)
    ∙ ap (λ l. x ∷ l)
    (walk-linked nexts before members steps x xs z past (omega arith) (below_tail members x xs below) linked.2)

-- ---- the arrays show what they hold

pub holds_shown :
    (members : ℕ) (nexts befores : List ℕ) (owners : List (Option ℕ)) (lists : List (List ℕ))
    → Holds members nexts befores owners lists → shown members nexts ≡ lists
unfolding shown Below
holds_shown members nexts befores owners lists h =
    ext_get_or [] (shown members nexts) lists same_length (λ l lt. at l (omega (arith, same_length)))
  where
    heads : length (drop members nexts) ≡ length lists
    heads = length-drop members nexts ∙ omega (arith, h.nexts_long)

    same_length : length (shown members nexts) ≡ length lists
    same_length = length-map (drop members nexts) (walk nexts members members) ∙ heads

    at : (l : ℕ) → l < length lists → get_or (shown members nexts) l [] ≡ get_or lists l []
    at l lt =
        get_or-map (walk nexts members members) (drop members nexts) l 0 [] (omega (arith, heads))
        ∙ ap (walk nexts members members) (get_or-drop members nexts l 0)
        ∙ walk-linked nexts (node_at befores) members members (members + l) (get_or lists l []) (members + l) (omega arith)
        (length-once members (get_or lists l []) (λ y. h.below l y lt) (h.once l lt))
        (λ y. h.below l y lt) (h.linked l lt)

-- ---- what is read

pub list_with-owner :
    (members : ℕ) (nexts befores : List ℕ) (owners : List (Option ℕ)) (lists : List (List ℕ)) (m : ℕ)
    → Holds members nexts befores owners lists → m < members
    → position (λ xs. is_listed xs m) lists ≡ owner_at owners m
list_with-owner members nexts befores owners lists m h below = by_owner (owner_at owners m) refl
  where
    by_owner : (o : Option ℕ) → owner_at owners m ≡ o → position (λ xs. is_listed xs m) lists ≡ o
    by_owner None is =
        position_none (λ xs. is_listed xs m) lists (λ k lt. h.owned k m lt below ∙ ap (λ o. is_owner o k) is)
    by_owner (Some l) is =
        let lt = h.owner_exists l m below is in
        position_found (λ xs. is_listed xs m) lists l lt
        (h.owned l m lt below ∙ (ap (λ o. is_owner o l) is ∙ eq-eqb l l refl))
        (λ k less.
        h.owned k m (omega arith) below
        ∙ (ap (λ o. is_owner o k) is ∙ ne_eqb l k (λ same. absurd (omega arith))))

-- a member of a list has that list alone
pub listed-owner :
    (members : ℕ) (nexts befores : List ℕ) (owners : List (Option ℕ)) (lists : List (List ℕ)) (l m : ℕ)
    → Holds members nexts befores owners lists → l < length lists → is_listed (get_or lists l []) m ≡ true
    → owner_at owners m ≡ Some l
listed-owner members nexts befores owners lists l m h l_in listed =
    by_owner (owner_at owners m) (sym (h.owned l m l_in (h.below l m l_in listed)) ∙ listed)
  where
    by_owner : (o : Option ℕ) → is_owner o l ≡ true → o ≡ Some l
    by_owner None is = absurd (cc)
    by_owner (Some k) is = ap Some (eqb-true k l is)

head-linked :
    (next before : ℕ → ℕ) (members a : ℕ) (xs : List ℕ) (z : ℕ) → members ≤ z → Below members xs
    → Linked next before a xs z → member_of members (next a) ≡ head xs
head-linked next before members a [] z past below linked =
    ap (member_of members) linked.0 ∙ ap (λ b. cond b (Some z) None) (le-ltb z members past)
head-linked next before members a (x ∷ xs) z past below linked =
    ap (member_of members) linked.0
    ∙ ap (λ b. cond b (Some x) None) (lt-ltb x members (below_head members x xs below))

after-linked :
    (next before : ℕ → ℕ) (members a : ℕ) (xs : List ℕ) (z m : ℕ) → members ≤ z → Below members xs
    → is_listed xs m ≡ true → Linked next before a xs z → member_of members (next m) ≡ after xs m
after-linked next before members a [] z m past below listed linked = absurd (cc)
after-linked next before members a (x ∷ xs) z m past below listed linked =
    elim (cases_eq x m) [
      | inl same ↦
          ap (λ y. member_of members (next y)) (sym same)
          ∙ head-linked next before members x xs z past (below_tail members x xs below) linked.2
          ∙ sym (ap (λ b. cond b (head xs) (after xs m)) (eq-eqb x m same))
      | inr apart ↦
          after-linked next before members x xs z m past (below_tail members x xs below)
          (sym (listed_later x xs m apart) ∙ listed) linked.2
          ∙ sym (ap (λ b. cond b (head xs) (after xs m)) (ne_eqb x m apart))
    ]

pub first-held :
    (members : ℕ) (nexts befores : List ℕ) (owners : List (Option ℕ)) (lists : List (List ℕ)) (l : ℕ)
    → Holds members nexts befores owners lists → l < length lists
    → member_of members (node_at nexts (members + l)) ≡ head (get_or lists l [])
unfolding Below
first-held members nexts befores owners lists l h lt =
    head-linked (node_at nexts) (node_at befores) members (members + l) (get_or lists l []) (members + l) (omega arith)
    (λ y. h.below l y lt) (h.linked l lt)

pub next-held :
    (members : ℕ) (nexts befores : List ℕ) (owners : List (Option ℕ)) (lists : List (List ℕ)) (l m : ℕ)
    → Holds members nexts befores owners lists → m < members → owner_at owners m ≡ Some l
    → member_of members (node_at nexts m) ≡ after (get_or lists l []) m
unfolding Below
next-held members nexts befores owners lists l m h below is =
    let lt = h.owner_exists l m below is in
    after-linked (node_at nexts) (node_at befores) members (members + l) (get_or lists l []) (members + l) m (omega arith)
    (λ y. h.below l y lt)
    (h.owned l m lt below ∙ (ap (λ o. is_owner o l) is ∙ eq-eqb l l refl))
    (h.linked l lt)
