-- Rings of nodes with one more or one less
use Rattle.std.proofs.Common.{◌≡◌, ◌⊎◌, ℕ, true, false, List, [], ◌∷◌, ◌++◌, sym, ap, ◌∙◌, subst, inl, inr}
use Rattle.std.proofs.lemmas.Bool.{cases_eq}
use Rattle.xs_base.specs.Listed.{is_listed}
use Rattle.xs_chain.specs.Row.{others, Once}
use Rattle.xs_chain.specs.Ring.{Linked}
use Rattle.xs_chain.proofs.Lists.{listed_head, listed_tail, listed_later, unlisted_head, unlisted_tail, others-cases, others-unlisted}

-- a function with two of its values set
pub record Sets (f g : ℕ → ℕ) (p v q w : ℕ) : Type 0 where
  pub first : g p ≡ v
  pub second : g q ≡ w
  pub rest : (y : ℕ) → (y ≡ p → ⊥) → (y ≡ q → ⊥) → g y ≡ f y

-- the node before the last one is linked to it
pub linked_last : (next before : ℕ → ℕ) (a : ℕ) (xs : List ℕ) (z : ℕ) → Linked next before a xs z → next (before z) ≡ z
linked_last next before a [] z linked = ap next linked.1 ∙ linked.0
linked_last next before a (x ∷ xs) z linked = linked_last next before x xs z linked.2

linked_first : (next before : ℕ → ℕ) (a : ℕ) (xs : List ℕ) (z : ℕ) → Linked next before a xs z → before (next a) ≡ a
linked_first next before a [] z linked = ap before linked.0 ∙ linked.1
linked_first next before a (x ∷ xs) z linked = ap before linked.0 ∙ linked.1

-- the neighbours of a member are linked to it
pub linked_both_ways :
    (next before : ℕ → ℕ) (a : ℕ) (xs : List ℕ) (z m : ℕ) → Linked next before a xs z → is_listed xs m ≡ true
    → (next (before m) ≡ m) × (before (next m) ≡ m)
linked_both_ways next before a [] z m linked listed = absurd (cc)
linked_both_ways next before a (x ∷ xs) z m linked listed =
    elim (cases_eq x m) [
      | inl same ↦
          subst (λ (y : ℕ). (next (before y) ≡ y) × (before (next y) ≡ y)) same
          (ap next linked.1 ∙ linked.0, linked_first next before x xs z linked.2)
      | inr apart ↦ linked_both_ways next before x xs z m linked.2 (sym (listed_later x xs m apart) ∙ listed)
    ]

-- the node before the last one is the first one or a member
pub linked_before :
    (next before : ℕ → ℕ) (a : ℕ) (xs : List ℕ) (z : ℕ) → Linked next before a xs z
    → (before z ≡ a) ⊎ (is_listed xs (before z) ≡ true)
linked_before next before a [] z linked = inl linked.1
linked_before next before a (x ∷ xs) z linked =
    elim (linked_before next before x xs z linked.2) [
      | inl same ↦ inr (subst (λ (y : ℕ). is_listed (x ∷ xs) y ≡ true) (sym same) (listed_head x xs))
      | inr listed ↦ inr (listed_tail x xs (before z) listed)
    ]

-- ---- a member more at the end

-- a new member stands between a list's end and what was before it
pub record Pushes (next before next' before' : ℕ → ℕ) (last m end : ℕ) : Type 0 where
  pub was_last : next last ≡ end
  pub was_before : before end ≡ last
  pub nexts : Sets next next' last m m end
  pub befores : Sets before before' m last end m

pub linked_push :
    (next before next' before' : ℕ → ℕ) (last m end : ℕ) → Pushes next before next' before' last m end
    → (a : ℕ) (xs : List ℕ) → (a ≡ m → ⊥) → is_listed xs m ≡ false → is_listed xs end ≡ false
    → Linked next before a xs end → Linked next' before' a (xs ++ m ∷ []) end
linked_push next before next' before' last m end p a [] apart none inner linked =
    let at : a ≡ last = sym linked.1 ∙ p.was_before in
    (ap next' at ∙ p.nexts.first, p.befores.first ∙ sym at, (p.nexts.second, p.befores.second))
linked_push next before next' before' last m end p a (x ∷ xs) apart none inner linked =
    let member : x ≡ m → ⊥ = unlisted_head x xs m none in
    let inside : x ≡ end → ⊥ = unlisted_head x xs end inner in
    let earlier : a ≡ last → ⊥ = λ at. inside (sym linked.0 ∙ (ap next at ∙ p.was_last)) in (
      p.nexts.rest a earlier apart ∙ linked.0,
      p.befores.rest x member inside ∙ linked.1,
      linked_push next before next' before' last m end p x xs member (unlisted_tail x xs m none)
          (unlisted_tail x xs end inner) linked.2,
    )

-- nodes of another list stay linked
pub linked_beside_push :
    (next before next' before' : ℕ → ℕ) (last m end : ℕ) → Pushes next before next' before' last m end
    → (a : ℕ) (xs : List ℕ) (z : ℕ) → (a ≡ m → ⊥) → (z ≡ m → ⊥) → (z ≡ end → ⊥) → is_listed xs m ≡ false
    → is_listed xs end ≡ false → Linked next before a xs z → Linked next' before' a xs z
linked_beside_push next before next' before' last m end p a [] z apart other beside none inner linked = (
  p.nexts.rest a (λ at. beside (sym linked.0 ∙ (ap next at ∙ p.was_last))) apart ∙ linked.0,
  p.befores.rest z other beside ∙ linked.1,
)
linked_beside_push next before next' before' last m end p a (x ∷ xs) z apart other beside none inner linked =
    let member : x ≡ m → ⊥ = unlisted_head x xs m none in
    let inside : x ≡ end → ⊥ = unlisted_head x xs end inner in (
      p.nexts.rest a (λ at. inside (sym linked.0 ∙ (ap next at ∙ p.was_last))) apart ∙ linked.0,
      p.befores.rest x member inside ∙ linked.1,
      linked_beside_push next before next' before' last m end p x xs z member other beside (unlisted_tail x xs m none)
          (unlisted_tail x xs end inner) linked.2,
    )

-- ---- a member less

-- the neighbours of a member are linked to each other
pub record Unlinks (next before next' before' : ℕ → ℕ) (m : ℕ) : Type 0 where
  pub next_of_before : next (before m) ≡ m
  pub before_of_next : before (next m) ≡ m
  pub nexts : Sets next next' (before m) (next m) (before m) (next m)
  pub befores : Sets before before' (next m) (before m) (next m) (before m)

next_kept :
    (next before next' before' : ℕ → ℕ) (m : ℕ) → Unlinks next before next' before' m
    → (a x : ℕ) → (x ≡ m → ⊥) → next a ≡ x → next' a ≡ x
next_kept next before next' before' m u a x apart is =
    let other : a ≡ before m → ⊥ = λ at. apart (sym is ∙ (ap next at ∙ u.next_of_before)) in
    u.nexts.rest a other other ∙ is

before_kept :
    (next before next' before' : ℕ → ℕ) (m : ℕ) → Unlinks next before next' before' m
    → (a x : ℕ) → (a ≡ m → ⊥) → before x ≡ a → before' x ≡ a
before_kept next before next' before' m u a x apart is =
    let other : x ≡ next m → ⊥ = λ at. apart (sym is ∙ (ap before at ∙ u.before_of_next)) in
    u.befores.rest x other other ∙ is

-- nodes without the member stay linked
pub linked_beside_unlink :
    (next before next' before' : ℕ → ℕ) (m : ℕ) → Unlinks next before next' before' m
    → (a : ℕ) (xs : List ℕ) (z : ℕ) → (a ≡ m → ⊥) → (z ≡ m → ⊥) → is_listed xs m ≡ false
    → Linked next before a xs z → Linked next' before' a xs z
linked_beside_unlink next before next' before' m u a [] z apart other none linked =
    (next_kept next before next' before' m u a z other linked.0, before_kept next before next' before' m u a z apart linked.1)
linked_beside_unlink next before next' before' m u a (x ∷ xs) z apart other none linked =
    let member : x ≡ m → ⊥ = unlisted_head x xs m none in (
      next_kept next before next' before' m u a x member linked.0,
      before_kept next before next' before' m u a x apart linked.1,
      linked_beside_unlink next before next' before' m u x xs z member other (unlisted_tail x xs m none) linked.2,
    )

-- what stood before the member is linked to what stood after it
linked_over :
    (next before next' before' : ℕ → ℕ) (m : ℕ) → Unlinks next before next' before' m
    → (a : ℕ) (xs : List ℕ) (z : ℕ) → before m ≡ a → (z ≡ m → ⊥) → is_listed xs m ≡ false
    → Linked next before m xs z → Linked next' before' a xs z
linked_over next before next' before' m u a [] z at other none linked =
    (ap next' (sym at) ∙ (u.nexts.first ∙ linked.0), ap before' (sym linked.0) ∙ (u.befores.first ∙ at))
linked_over next before next' before' m u a (x ∷ xs) z at other none linked = (
  ap next' (sym at) ∙ (u.nexts.first ∙ linked.0),
  ap before' (sym linked.0) ∙ (u.befores.first ∙ at),
  linked_beside_unlink next before next' before' m u x xs z (unlisted_head x xs m none) other (unlisted_tail x xs m none) linked.2,
)

pub linked_unlink :
    (next before next' before' : ℕ → ℕ) (m : ℕ) → Unlinks next before next' before' m
    → (a : ℕ) (xs : List ℕ) (z : ℕ) → (a ≡ m → ⊥) → (z ≡ m → ⊥) → is_listed xs m ≡ true → Once xs
    → Linked next before a xs z → Linked next' before' a (others m xs) z
linked_unlink next before next' before' m u a [] z apart other listed once linked = absurd (cc)
linked_unlink next before next' before' m u a (x ∷ xs) z apart other listed once linked =
    others-cases (λ l. Linked next' before' a l z) m x xs
    (λ same.
    let none : is_listed xs m ≡ false = subst (λ (y : ℕ). is_listed xs y ≡ false) same once.0 in
    subst (λ (l : List ℕ). Linked next' before' a l z) (sym (others-unlisted m xs none))
    (linked_over next before next' before' m u a xs z (ap before (sym same) ∙ linked.1) other none
    (subst (λ (y : ℕ). Linked next before y xs z) same linked.2)))
    (λ member. (
      next_kept next before next' before' m u a x member linked.0,
      before_kept next before next' before' m u a x apart linked.1,
      linked_unlink next before next' before' m u x xs z member other (sym (listed_later x xs m member) ∙ listed) once.1 linked.2,
    ))
