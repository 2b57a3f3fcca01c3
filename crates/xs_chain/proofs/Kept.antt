-- What each call keeps, said of the arrays and of the row that they show
use Rattle.std.proofs.Common.{◌≡◌, ◌+◌, ◌<◌, ℕ, suc, false, Option, Some, None, List, [], ◌∷◌, length, map, set, get_or, refl, sym, ap, ◌∙◌, subst, arith}
use Rattle.std.proofs.lemmas.List.{length-map, get_or-map, get_or_read}
use Rattle.xs_base.specs.Listed.{is_listed}
use Rattle.xs_chain.specs.Row.{Row, list_with, in_list_of, with_last, without, others, next_of, after, IsRow, head, list_at}
use Rattle.xs_chain.specs.Ring.{node_at, owner_at, shown, member_of, Holds, IsRing}
use Rattle.xs_chain.proofs.Lists.{others-unlisted, unlisted_others, position_none, none_found}
use Rattle.xs_chain.proofs.Held.{holds_shown, list_with-owner, listed-owner, first-held, next-held}
use Rattle.xs_chain.proofs.Changed.{holds_push, holds_unlink}

-- the row that arrays show
abbrev pub row_of : ℕ → List ℕ → Row
row_of members nexts = record { members = members; lists = shown members nexts }

pub ring_held :
    (members : ℕ) (nexts befores : List ℕ) (owners : List (Option ℕ)) (lists : List (List ℕ))
    → Holds members nexts befores owners lists → IsRing members nexts befores owners
ring_held members nexts befores owners lists h =
    subst (Holds members nexts befores owners) (sym (holds_shown members nexts befores owners lists h)) h

pub row_held :
    (members : ℕ) (nexts befores : List ℕ) (owners : List (Option ℕ)) (row : Row) → row.members ≡ members
    → Holds members nexts befores owners row.lists → row_of members nexts ≡ row
row_held members nexts befores owners row same h =
    ap (λ ls. record { members = members; lists = ls }) (holds_shown members nexts befores owners row.lists h)
    ∙ ap (λ n. record { members = n; lists = row.lists }) (sym same)

pub held_push :
    (members : ℕ) (nexts befores : List ℕ) (owners : List (Option ℕ)) (row : Row) (l m last : ℕ)
    → row_of members nexts ≡ row → IsRing members nexts befores owners
    → l < length row.lists → m < row.members → list_with row m ≡ None → last ≡ get_or befores (members + l) last
    → Holds members (set (set nexts last m) m (members + l)) (set (set befores m last) (members + l) m)
    (set owners m (Some l)) (with_last row l m).lists
held_push members nexts befores owners row l m last v h l_in m_in free read =
    subst (λ (r : Row). Holds members (set (set nexts last m) m (members + l)) (set (set befores m last) (members + l) m)
    (set owners m (Some l)) (with_last r l m).lists) v
    (holds_push members nexts befores owners (shown members nexts) l m last h list_in member_in
    (sym (list_with-owner members nexts befores owners (shown members nexts) m h member_in)
    ∙ subst (λ (r : Row). list_with r m ≡ None) (sym v) free)
    (get_or_read befores (members + l) last (omega (arith, h.befores_long, list_in)) read 0))
  where
    list_in : l < length (shown members nexts)
    list_in = subst (λ (r : Row). l < length r.lists) (sym v) l_in

    member_in : m < members
    member_in = subst (λ (r : Row). m < r.members) (sym v) m_in

some_owner : (o : Option ℕ) → (o ≡ None → ⊥) → (l : ℕ) × (o ≡ Some l)
some_owner None not = absurd (not refl)
some_owner (Some l) not = (l, refl)

-- a member in a list has an owner
owner_of :
    (members : ℕ) (nexts befores : List ℕ) (owners : List (Option ℕ)) (row : Row) (m : ℕ)
    → row_of members nexts ≡ row → IsRing members nexts befores owners → m < members → (list_with row m ≡ None → ⊥)
    → (l : ℕ) × (owner_at owners m ≡ Some l)
owner_of members nexts befores owners row m v h m_in listed =
    some_owner (owner_at owners m)
    (λ none.
    listed
    (subst (λ (r : Row). list_with r m ≡ None) v
    (list_with-owner members nexts befores owners (shown members nexts) m h m_in ∙ none)))

pub held_unlink :
    (members : ℕ) (nexts befores : List ℕ) (owners : List (Option ℕ)) (row : Row) (m before next : ℕ)
    → row_of members nexts ≡ row → IsRing members nexts befores owners
    → m < row.members → (list_with row m ≡ None → ⊥) → before ≡ get_or befores m before → next ≡ get_or nexts m next
    → Holds members (set nexts before next) (set befores next before) (set owners m None) (without row m).lists
held_unlink members nexts befores owners row m before next v h m_in listed read_before read_next =
    let is_before : before ≡ node_at befores m = get_or_read befores m before (omega (arith, h.befores_long, member_in)) read_before 0 in
    let is_next : next ≡ node_at nexts m = get_or_read nexts m next (omega (arith, h.nexts_long, member_in)) read_next 0 in
    let owner = owner_of members nexts befores owners row m v h member_in listed in
    subst (λ (r : Row). Holds members (set nexts before next) (set befores next before) (set owners m None) (without r m).lists) v
    (subst (λ (b : ℕ). Holds members (set nexts b next) (set befores next b) (set owners m None) (map (others m) (shown members nexts)))
    (sym is_before)
    (subst (λ (n : ℕ). Holds members (set nexts (node_at befores m) n) (set befores n (node_at befores m)) (set owners m None)
    (map (others m) (shown members nexts))) (sym is_next)
    (holds_unlink members nexts befores owners (shown members nexts) owner.0 m h member_in owner.1)))
  where
    member_in : m < members
    member_in = subst (λ (r : Row). m < r.members) (sym v) m_in

pub held_first :
    (members : ℕ) (nexts befores : List ℕ) (owners : List (Option ℕ)) (row : Row) (l node : ℕ)
    → row_of members nexts ≡ row → IsRing members nexts befores owners
    → l < length row.lists → node ≡ get_or nexts (members + l) node
    → member_of row.members node ≡ head (list_at row l)
held_first members nexts befores owners row l node v h l_in read =
    let list_in : l < length (shown members nexts) = subst (λ (r : Row). l < length r.lists) (sym v) l_in in
    let is_first : node ≡ node_at nexts (members + l) =
    get_or_read nexts (members + l) node (omega (arith, h.nexts_long, list_in)) read 0 in
    subst (λ (r : Row). member_of r.members node ≡ head (list_at r l)) v
    (ap (member_of members) is_first ∙ first-held members nexts befores owners (shown members nexts) l h list_in)

pub held_next :
    (members : ℕ) (nexts befores : List ℕ) (owners : List (Option ℕ)) (row : Row) (m next : ℕ)
    → row_of members nexts ≡ row → IsRing members nexts befores owners
    → m < row.members → (list_with row m ≡ None → ⊥) → next ≡ get_or nexts m next
    → member_of row.members next ≡ next_of row m
held_next members nexts befores owners row m next v h m_in listed read =
    let is_next : next ≡ node_at nexts m = get_or_read nexts m next (omega (arith, h.nexts_long, member_in)) read 0 in
    let owner = owner_of members nexts befores owners row m v h member_in listed in
    let found : list_with (row_of members nexts) m ≡ Some owner.0 =
    list_with-owner members nexts befores owners (shown members nexts) m h member_in ∙ owner.1 in
    subst (λ (r : Row). member_of r.members next ≡ next_of r m) v
    (ap (member_of members) is_next
    ∙ next-held members nexts befores owners (shown members nexts) owner.0 m h member_in owner.1
    ∙ sym (ap (λ o. after (in_list_of (row_of members nexts) o) m) found))
  where
    member_in : m < members
    member_in = subst (λ (r : Row). m < r.members) (sym v) m_in

pub row_valid :
    (members : ℕ) (nexts befores : List ℕ) (owners : List (Option ℕ)) (row : Row)
    → row_of members nexts ≡ row → IsRing members nexts befores owners → IsRow row
row_valid members nexts befores owners row v h =
    subst IsRow v
    (record {
      exists = h.below;
      once = h.once;
      alone = λ l m l_in listed.
          list_with-owner members nexts befores owners (shown members nexts) m h (h.below l m l_in listed)
          ∙ listed-owner members nexts befores owners (shown members nexts) l m h l_in listed;
    })

-- ---- a row without a member

pub list_with-without : (row : Row) (m : ℕ) → list_with (without row m) m ≡ None
list_with-without row m =
    position_none (λ xs. is_listed xs m) (map (others m) row.lists)
    (λ k lt.
    let inside : k < length row.lists = omega (arith, length-map row.lists (others m)) in
    ap (λ xs. is_listed xs m) (get_or-map (others m) row.lists k [] [] inside) ∙ unlisted_others m (get_or row.lists k []))

map_others : (m : ℕ) (ls : List (List ℕ)) → ((k : ℕ) → k < length ls → is_listed (get_or ls k []) m ≡ false) → map (others m) ls ≡ ls
map_others m [] none = refl
map_others m (xs ∷ ls) none =
    ap (λ l. l ∷ map (others m) ls) (others-unlisted m xs (none 0 (omega arith)))
    ∙ ap (λ l. xs ∷ l) (map_others m ls (λ k lt. none (suc k) (omega arith)))

pub without-none : (row : Row) (m : ℕ) → list_with row m ≡ None → without row m ≡ row
without-none row m none =
    ap (λ ls. record { members = row.members; lists = ls })
    (map_others m row.lists (none_found (λ xs. is_listed xs m) row.lists none))
