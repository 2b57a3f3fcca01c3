-- What visits make of a list
use Rattle.std.proofs.Common.{◌≡◌, ◌≢◌, ◌⊎◌, ◌<◌, ◌≤◌, ◌+◌, zero, suc, ℕ, Bool, true, false, if◌then◌else◌, List, [], ◌∷◌, ◌++◌, AllPairs, Contains, length, sum_by, get_or, refl, sym, ap, ◌∙◌, subst, inl, inr, arith}
use Rattle.std.proofs.lemmas.List.{append-nil, append_assoc, length-append, length_push}
use Rattle.std.proofs.lemmas.List.Elements.{Contains-append_left, Contains-append_right, Contains-append_cases, Contains-push, Contains-push_cases, Contains-get_or}
use Rattle.std.proofs.lemmas.List.Quantifiers.{all_pairs_push}
use Rattle.std.proofs.lemmas.List.Sums.{sum_by-append, sum_by_push, sum_by_more_le}
use Rattle.std.proofs.lemmas.Bool.{false≢true}
use Rattle.xs_rect.specs.Area.{Area, grown}
use Rattle.xs_meaning.specs.Expressions.{Expr, Clear, Leaf, Tinted, Card, Pair, Blur}
use Rattle.xs_demand.specs.Aliases.{Alias, alias, stands_in, inputs_on, inputs_of, visiting, visit, visit_tiles, visit_rows, on_tiles, inputs_in, Leads, Reaches, size_of}
use Rattle.xs_demand.specs.Shown.{root_aliases, StandsAt}
use Rattle.xs_demand.proofs.SameLemmas.{Decides-stands_in}
use Rattle.xs_demand.proofs.PlaceLemmas.{place_of, only, none_in_nil, place-append, before_or_last}

-- ---- what an alias reaches

pub Reaches-self : (x : Alias) → Reaches x x
unfolding Leads
Reaches-self x = record { steps = 0; way = refl }

pub Reaches-input : (x input y : Alias) → Contains (inputs_of x) input → Reaches input y → Reaches x y
unfolding Leads
Reaches-input x input y among reaches = record { steps = suc reaches.steps; way = (input, among, reaches.way) }

-- ---- sizes

abbrev pub sizes : List Alias → ℕ
sizes xs = sum_by (λ x. size_of x.expr) xs

-- an expression is one more than its inputs
pub size_is : (e : Expr) (rect : Area) → size_of e ≡ 1 + sizes (inputs_on e rect)
size_is Clear rect = refl
size_is (Leaf d at) rect = refl
size_is (Tinted d at tint) rect = refl
size_is (Card pixel) rect = refl
size_is (Pair op a b) rect = omega arith
size_is (Blur n a) rect = omega arith

size_contained : (xs : List Alias) (x : Alias) → Contains xs x → size_of x.expr ≤ sizes xs
size_contained xs x there =
    let whole = sum_by_more_le (λ (y : Alias). size_of y.expr) xs there.0 x there.1 in
    let is : size_of (get_or xs there.0 x).expr ≡ size_of x.expr = ap (λ (y : Alias). size_of y.expr) there.2 in
    omega arith

pub size_of-input : (x input : Alias) → Contains (inputs_of x) input → size_of input.expr < size_of x.expr
size_of-input x input among =
    let whole = size_is x.expr x.rect in
    let part = size_contained (inputs_of x) input among in
    omega arith

size_of-led : (steps : ℕ) (x y : Alias) → Leads steps x y → size_of y.expr ≤ size_of x.expr
unfolding Leads
size_of-led zero x y way = let same : size_of x.expr ≡ size_of y.expr = ap (λ (z : Alias). size_of z.expr) way in omega arith
size_of-led (suc steps) x y way =
    let less = size_of-input x way.0 way.1 in
    let rest = size_of-led steps way.0 y way.2 in
    omega arith

pub size_of-reached : (x y : Alias) → Reaches x y → size_of y.expr ≤ size_of x.expr
size_of-reached x y reaches = size_of-led reaches.steps x y reaches.way

-- ---- visits

-- no alias stands twice
abbrev pub StandApart : List Alias → Type 0
StandApart l = AllPairs (λ x y. x ≢ y) l

-- the inputs of each stand before it
abbrev pub AreFounded : List Alias → Type 0
AreFounded l =
    (x : Alias) (k : ℕ) → StandsAt l x k → (input : Alias) → Contains (inputs_of x) input
    → (j : ℕ) × (j < k) × StandsAt l input j

-- a list has become another by visits of some aliases
pub record Visits (xs l m : List Alias) : Type 0 where
  pub added : List Alias
  pub is : m ≡ l ++ added
  -- what is added is reached
  pub reached : (y : Alias) → Contains added y → (x : Alias) × Contains xs x × Reaches x y
  pub there : (x : Alias) → Contains xs x → Contains m x
  pub founded : AreFounded l → AreFounded m
  pub apart : StandApart l → StandApart m
  -- what is added was visited or is an input
  pub read : (y : Alias) → Contains added y → Contains xs y ⊎ ((x : Alias) × Contains added x × Contains (inputs_of x) y)
  pub few : length m ≤ length l + sizes xs
  pub few_inputs : inputs_in m + length xs ≤ inputs_in l + sizes xs

pub no_visits : (l : List Alias) → Visits [] l l
no_visits l =
    record {
      added = [];
      is = sym (append-nil l);
      reached = λ y there. none_in_nil y there;
      there = λ x there. none_in_nil x there;
      founded = λ founded. founded;
      apart = λ apart. apart;
      read = λ y there. none_in_nil y there;
      few = omega arith;
      few_inputs = omega arith;
    }

pub more_visits : (xs ys l m n : List Alias) → Visits xs l m → Visits ys m n → Visits (xs ++ ys) l n
more_visits xs ys l m n v w =
    record {
      added = v.added ++ w.added;
      is = w.is ∙ ap (λ z. z ++ w.added) v.is ∙ append_assoc l v.added w.added;
      reached =
          λ y there. elim (Contains-append_cases v.added w.added y there) [
            | inl first ↦ let by = v.reached y first in (by.0, Contains-append_left xs ys by.0 by.1, by.2)
            | inr last ↦ let by = w.reached y last in (by.0, Contains-append_right xs ys by.0 by.1, by.2)
          ];
      there =
          λ x among. elim (Contains-append_cases xs ys x among) [
            | inl first ↦ subst (λ z. Contains z x) (sym w.is) (Contains-append_left m w.added x (v.there x first))
            | inr last ↦ w.there x last
          ];
      founded = λ founded. w.founded (v.founded founded);
      apart = λ apart. w.apart (v.apart apart);
      read =
          λ y there. elim (Contains-append_cases v.added w.added y there) [
            | inl first ↦ elim (v.read y first) [
              | inl visited ↦ inl (Contains-append_left xs ys y visited)
              | inr by ↦ inr (by.0, Contains-append_left v.added w.added by.0 by.1, by.2)
            ]
            | inr last ↦ elim (w.read y last) [
              | inl visited ↦ inl (Contains-append_right xs ys y visited)
              | inr by ↦ inr (by.0, Contains-append_right v.added w.added by.0 by.1, by.2)
            ]
          ];
      few = let first = v.few in let last = w.few in omega (arith, sum_by-append (λ (x : Alias). size_of x.expr) xs ys);
      few_inputs =
          let first = v.few_inputs in
          let last = w.few_inputs in
          omega (arith, sum_by-append (λ (x : Alias). size_of x.expr) xs ys, length-append xs ys);
    }

-- an alias that its inputs' visits reach is smaller
absent : (x : Alias) (l m : List Alias) → Visits (inputs_of x) l m → stands_in l x ≡ false → Contains m x → ⊥
absent x l m v none there =
    elim (Contains-append_cases l v.added x (subst (λ z. Contains z x) v.is there)) [
      | inl old ↦ false≢true (sym none ∙ (Decides-stands_in l x).1 old)
      | inr new ↦
          let by = v.reached x new in
          let less = size_of-input x by.0 by.1 in
          let most = size_of-reached by.0 x by.2 in
          omega arith
    ]

visits_itself :
    (b : Bool) (x : Alias) (l m : List Alias) → stands_in l x ≡ b → Visits (inputs_of x) l m
    → Visits (x ∷ []) l (if b then l else (m ++ x ∷ []))
visits_itself true x l m found v =
    record {
      added = [];
      is = sym (append-nil l);
      reached = λ y there. none_in_nil y there;
      there = λ y there. subst (Contains l) (only x y there) ((Decides-stands_in l x).0 found);
      founded = λ founded. founded;
      apart = λ apart. apart;
      read = λ y there. none_in_nil y there;
      few = omega arith;
      few_inputs = let whole = size_is x.expr x.rect in omega arith;
    }
visits_itself false x l m none v =
    record {
      added = v.added ++ x ∷ [];
      is = ap (λ z. z ++ x ∷ []) v.is ∙ append_assoc l v.added (x ∷ []);
      reached =
          λ y there. elim (Contains-push_cases v.added x y there) [
            | inl first ↦
                let by = v.reached y first in
                (x, Contains-push [] x, Reaches-input x by.0 y by.1 by.2)
            | inr last ↦ (x, Contains-push [] x, subst (Reaches x) last (Reaches-self x))
          ];
      there = λ y there. subst (Contains (m ++ x ∷ [])) (only x y there) (Contains-push m x);
      founded =
          λ founded y k at input among. elim (before_or_last m x k y at) [
            | inl old ↦
                let before = v.founded founded y k old input among in
                (before.0, before.1, place-append m (x ∷ []) before.0 input before.2)
            | inr last ↦
                let of_x : Contains (inputs_of x) input = subst (λ z. Contains (inputs_of z) input) (sym last.1) among in
                let place = place_of m input (v.there input of_x) in
                (place.0, omega (arith, place.1, last.0), place-append m (x ∷ []) place.0 input place.2)
          ];
      apart =
          λ apart. all_pairs_push (λ y z. y ≢ z) m x (v.apart apart)
          (λ k d below same.
          absent x l m v none (subst (Contains m) same (Contains-get_or m k d below)));
      read =
          λ y there. elim (Contains-push_cases v.added x y there) [
            | inl first ↦ elim (v.read y first) [
              | inl input ↦ inr (x, Contains-push v.added x, input)
              | inr by ↦ inr (by.0, Contains-append_left v.added (x ∷ []) by.0 by.1, by.2)
            ]
            | inr last ↦ inl (subst (Contains (x ∷ [])) last (Contains-push [] x))
          ];
      few =
          let whole = size_is x.expr x.rect in
          let inputs = v.few in
          omega (arith, length_push m x);
      few_inputs =
          let whole = size_is x.expr x.rect in
          let inputs = v.few_inputs in
          omega (arith, sum_by_push (λ (y : Alias). length (inputs_of y)) m x);
    }

-- a visit after those of the inputs
visits_after : (x : Alias) (l m : List Alias) → Visits (inputs_of x) l m → Visits (x ∷ []) l (visiting x l m)
visits_after x l m v = visits_itself (stands_in l x) x l m refl v

pub visits : (e : Expr) (rect : Area) (l : List Alias) → Visits (alias e rect ∷ []) l (visit e rect l)
unfolding visit
visits Clear rect l = visits_after (alias Clear rect) l l (no_visits l)
visits (Leaf d at) rect l = visits_after (alias (Leaf d at) rect) l l (no_visits l)
visits (Tinted d at tint) rect l = visits_after (alias (Tinted d at tint) rect) l l (no_visits l)
visits (Card pixel) rect l = visits_after (alias (Card pixel) rect) l l (no_visits l)
visits (Pair op a b) rect l =
    visits_after (alias (Pair op a b) rect) l (visit b rect (visit a rect l))
    (more_visits (alias a rect ∷ []) (alias b rect ∷ []) l (visit a rect l) (visit b rect (visit a rect l))
    (visits a rect l) (visits b rect (visit a rect l)))
visits (Blur n a) rect l =
    visits_after (alias (Blur n a) rect) l (visit a (grown rect n) l) (visits a (grown rect n) l)

pub visits_tiles : (e : Expr) (tiles : List Area) (l : List Alias) → Visits (on_tiles tiles e) l (visit_tiles e tiles l)
visits_tiles e [] l = no_visits l
visits_tiles e (tile ∷ tiles) l =
    more_visits (alias e tile ∷ []) (on_tiles tiles e) l (visit e tile l) (visit_tiles e tiles (visit e tile l))
    (visits e tile l) (visits_tiles e tiles (visit e tile l))

pub visits_rows :
    (tiles : List Area) (roots : List Expr) (l : List Alias)
    → Visits (root_aliases tiles roots) l (visit_rows tiles roots l)
visits_rows tiles [] l = no_visits l
visits_rows tiles (e ∷ roots) l =
    more_visits (on_tiles tiles e) (root_aliases tiles roots) l (visit_tiles e tiles l)
    (visit_rows tiles roots (visit_tiles e tiles l)) (visits_tiles e tiles l) (visits_rows tiles roots (visit_tiles e tiles l))

-- ---- visits one after another

pub visit_tiles-append :
    (e : Expr) (xs ys : List Area) (l : List Alias) → visit_tiles e (xs ++ ys) l ≡ visit_tiles e ys (visit_tiles e xs l)
visit_tiles-append e [] ys l = refl
visit_tiles-append e (x ∷ xs) ys l = visit_tiles-append e xs ys (visit e x l)

pub visit_rows-append :
    (tiles : List Area) (xs ys : List Expr) (l : List Alias)
    → visit_rows tiles (xs ++ ys) l ≡ visit_rows tiles ys (visit_rows tiles xs l)
visit_rows-append tiles [] ys l = refl
visit_rows-append tiles (x ∷ xs) ys l = visit_rows-append tiles xs ys (visit_tiles x tiles l)
