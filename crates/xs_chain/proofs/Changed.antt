-- The arrays hold the lists with a member more or less
use Rattle.std.proofs.Common.{◌≡◌, ◌+◌, ◌<◌, ℕ, Bool, true, false, eqb, Option, Some, None, List, [], ◌∷◌, ◌++◌, length, map, set, replicate, get_or, refl, sym, ap, ◌∙◌, subst, inl, inr, arith}
use Rattle.std.proofs.lemmas.Bool.{eq-eqb, ne_eqb, both_ways, false_from_ne_true, cases_eq}
use Rattle.std.proofs.lemmas.List.{length-map, length-replicate, length-set, get_or-set_same, get_or-set_other, get_or-map, get_or-replicate}
use Rattle.xs_base.specs.Listed.{is_listed}
use Rattle.xs_chain.specs.Row.{others, Once}
use Rattle.xs_chain.specs.Ring.{node_at, Linked, is_owner, owner_at, Holds, IsEachAlone}
use Rattle.xs_chain.proofs.Lists.{listed_push_same, listed_push_other, unlisted_others, listed_others, others-unlisted, Once-push, Once-others}
use Rattle.xs_chain.proofs.Rings.{Sets, Pushes, Unlinks, linked_last, linked_before, linked_both_ways, linked_push, linked_beside_push, linked_unlink, linked_beside_unlink}

-- ---- arrays

sets_two :
    (xs : List ℕ) (p v q w : ℕ) → p < length xs → q < length xs → (p ≡ q → v ≡ w)
    → Sets (node_at xs) (node_at (set (set xs p v) q w)) p v q w
sets_two xs p v q w p_in q_in agree = record {
  first = elim (cases_eq p q) [
    | inl same ↦
        subst (λ (y : ℕ). node_at (set (set xs p v) q w) y ≡ v) (sym same)
        (get_or-set_same (set xs p v) q w 0 (omega (arith, length-set xs p v)) ∙ sym (agree same))
    | inr apart ↦ get_or-set_other (set xs p v) q p w 0 apart ∙ get_or-set_same xs p v 0 p_in
  ];
  second = get_or-set_same (set xs p v) q w 0 (omega (arith, length-set xs p v));
  rest = λ y not_p not_q. get_or-set_other (set xs p v) q y w 0 not_q ∙ get_or-set_other xs p y v 0 not_p;
}

sets_one : (xs : List ℕ) (p v : ℕ) → p < length xs → Sets (node_at xs) (node_at (set xs p v)) p v p v
sets_one xs p v p_in = record {
  first = get_or-set_same xs p v 0 p_in;
  second = get_or-set_same xs p v 0 p_in;
  rest = λ y not_p _. get_or-set_other xs p y v 0 not_p;
}

inside_set :
    (xs : List ℕ) (n p v : ℕ) → length xs ≡ n → v < n → ((a : ℕ) → a < n → node_at xs a < n)
    → (a : ℕ) → a < n → node_at (set xs p v) a < n
inside_set xs n p v long v_in inside a a_in =
    elim (cases_eq a p) [
      | inl same ↦
          subst (λ (y : ℕ). node_at (set xs p v) y < n) (sym same)
          (subst (λ (y : ℕ). y < n) (sym (get_or-set_same xs p v 0 (omega arith))) v_in)
      | inr apart ↦ subst (λ (y : ℕ). y < n) (sym (get_or-set_other xs p a v 0 apart)) (inside a a_in)
    ]

-- ---- lists

-- what holds of each list after one was set
at_each_set :
    (P : ℕ → List ℕ → Type 0) (lists : List (List ℕ)) (l : ℕ) (xs : List ℕ) → l < length lists → P l xs
    → ((k : ℕ) → k < length lists → (k ≡ l → ⊥) → P k (get_or lists k []))
    → (k : ℕ) → k < length (set lists l xs) → P k (get_or (set lists l xs) k [])
at_each_set P lists l xs l_in here others k k_in =
    elim (cases_eq k l) [
      | inl same ↦
          subst (λ (j : ℕ). P j (get_or (set lists l xs) j [])) (sym same)
          (subst (P l) (sym (get_or-set_same lists l xs [] l_in)) here)
      | inr apart ↦
          subst (P k) (sym (get_or-set_other lists l k xs [] apart))
          (others k (omega (arith, length-set lists l xs)) apart)
    ]

-- what holds of each list without a member
at_each_without :
    (P : ℕ → List ℕ → Type 0) (lists : List (List ℕ)) (m : ℕ)
    → ((k : ℕ) → k < length lists → P k (others m (get_or lists k [])))
    → (k : ℕ) → k < length (map (others m) lists) → P k (get_or (map (others m) lists) k [])
at_each_without P lists m each k k_in =
    let inside : k < length lists = omega (arith, length-map lists (others m)) in
    subst (P k) (sym (get_or-map (others m) lists k [] [] inside)) (each k inside)

at_each_owner :
    (P : ℕ → Option ℕ → Type 0) (owners : List (Option ℕ)) (members m : ℕ) (o : Option ℕ) → length owners ≡ members
    → m < members → P m o → ((x : ℕ) → x < members → (x ≡ m → ⊥) → P x (owner_at owners x))
    → (x : ℕ) → x < members → P x (owner_at (set owners m o) x)
at_each_owner P owners members m o long m_in here others x x_in =
    elim (cases_eq x m) [
      | inl same ↦
          subst (λ (y : ℕ). P y (owner_at (set owners m o) y)) (sym same)
          (subst (P m) (sym (get_or-set_same owners m o None (omega arith))) here)
      | inr apart ↦ subst (P x) (sym (get_or-set_other owners m x o None apart)) (others x x_in apart)
    ]

-- ---- a member more

pub holds_push :
    (members : ℕ) (nexts befores : List ℕ) (owners : List (Option ℕ)) (lists : List (List ℕ)) (l m last : ℕ)
    → Holds members nexts befores owners lists → l < length lists → m < members → owner_at owners m ≡ None
    → last ≡ node_at befores (members + l)
    → Holds members (set (set nexts last m) m (members + l)) (set (set befores m last) (members + l) m)
    (set owners m (Some l)) (set lists l (get_or lists l [] ++ m ∷ []))
holds_push members nexts befores owners lists l m last h l_in m_in free is_last = record {
  nexts_long = length-set (set nexts last m) m end ∙ (length-set nexts last m ∙ (h.nexts_long ∙ more));
  befores_long = length-set (set befores m last) end m ∙ (length-set befores m last ∙ (h.befores_long ∙ more));
  owners_long = length-set owners m (Some l) ∙ h.owners_long;
  nexts_inside = at_more (set (set nexts last m) m end)
      (inside_set (set nexts last m) nodes m end (length-set nexts last m ∙ h.nexts_long) (omega arith)
      (inside_set nexts nodes last m h.nexts_long (omega arith) h.nexts_inside));
  befores_inside = at_more (set (set befores m last) end m)
      (inside_set (set befores m last) nodes end m (length-set befores m last ∙ h.befores_long) (omega arith)
      (inside_set befores nodes m last h.befores_long last_in h.befores_inside));
  owned = λ k x k_in x_in.
      at_each_set (λ k xs. is_listed xs x ≡ is_owner (owner_at (set owners m (Some l)) x) k) lists l grown l_in
      (owner_of x l (is_listed grown x) x_in
      (λ same. subst (λ (y : ℕ). is_listed grown y ≡ eqb l l) (sym same) (listed_push_same (get_or lists l []) m ∙ sym (eq-eqb l l refl)))
      (λ apart. listed_push_other (get_or lists l []) m x (λ is. apart (sym is)) ∙ h.owned l x l_in x_in))
      (λ j j_in beside.
      owner_of x j (is_listed (get_or lists j []) x) x_in
      (λ same.
      subst (λ (y : ℕ). is_listed (get_or lists j []) y ≡ eqb l j) (sym same)
      (none j j_in ∙ sym (ne_eqb l j (λ is. beside (sym is)))))
      (λ _. h.owned j x j_in x_in))
      k k_in;
  owner_exists = λ k x x_in.
      subst (λ (n : ℕ). owner_at (set owners m (Some l)) x ≡ Some k → k < n) (sym (length-set lists l grown))
      (at_each_owner (λ _ o. o ≡ Some k → k < length lists) owners members m (Some l) h.owners_long m_in
      (λ is. let same : l ≡ k = cc in omega arith)
      (λ y y_in _ is. h.owner_exists k y y_in is) x x_in);
  below = λ k x k_in.
      at_each_set (λ _ xs. is_listed xs x ≡ true → x < members) lists l grown l_in
      (λ listed.
      elim (cases_eq m x) [
        | inl same ↦ omega arith
        | inr apart ↦ h.below l x l_in (sym (listed_push_other (get_or lists l []) m x apart) ∙ listed)
      ])
      (λ j j_in _. h.below j x j_in) k k_in;
  once = at_each_set (λ _ xs. Once xs) lists l grown l_in (Once-push (get_or lists l []) m (h.once l l_in) (none l l_in))
      (λ k k_in _. h.once k k_in);
  linked = at_each_set
      (λ k xs. Linked (node_at (set (set nexts last m) m end)) (node_at (set (set befores m last) end m)) (members + k) xs (members + k))
      lists l grown l_in
      (linked_push _ _ _ _ last m end pushes end (get_or lists l []) (λ is. absurd (omega arith)) (none l l_in)
      (no_node l l l_in) (h.linked l l_in))
      (λ k k_in beside.
      linked_beside_push _ _ _ _ last m end pushes (members + k) (get_or lists k []) (members + k)
      (λ is. absurd (omega arith)) (λ is. absurd (omega arith)) (λ is. beside (omega arith)) (none k k_in)
      (no_node k l k_in) (h.linked k k_in));
}
  where
    end : ℕ
    end = members + l

    nodes : ℕ
    nodes = members + length lists

    grown : List ℕ
    grown = get_or lists l [] ++ m ∷ []

    more : nodes ≡ members + length (set lists l grown)
    more = ap (λ n. members + n) (sym (length-set lists l grown))

    last_in : last < nodes
    last_in = subst (λ (y : ℕ). y < nodes) (sym is_last) (h.befores_inside end (omega arith))

    at_more : (xs : List ℕ) → ((a : ℕ) → a < nodes → node_at xs a < nodes)
        → (a : ℕ) → a < members + length (set lists l grown) → node_at xs a < members + length (set lists l grown)
    at_more xs = subst (λ (n : ℕ). (a : ℕ) → a < n → node_at xs a < n) more

    none : (k : ℕ) → k < length lists → is_listed (get_or lists k []) m ≡ false
    none k k_in = h.owned k m k_in m_in ∙ ap (λ o. is_owner o k) free

    no_node : (k j : ℕ) → k < length lists → is_listed (get_or lists k []) (members + j) ≡ false
    no_node k j k_in =
        false_from_ne_true (is_listed (get_or lists k []) (members + j))
        (λ listed. let member : members + j < members = h.below k (members + j) k_in listed in absurd (omega arith))

    owner_of : (x k : ℕ) (b : Bool) → x < members → (x ≡ m → b ≡ eqb l k)
        → ((x ≡ m → ⊥) → b ≡ is_owner (owner_at owners x) k) → b ≡ is_owner (owner_at (set owners m (Some l)) x) k
    owner_of x k b x_in is isnt =
        at_each_owner (λ y o. (y ≡ m → b ≡ eqb l k) → ((y ≡ m → ⊥) → b ≡ is_owner (owner_at owners y) k) → b ≡ is_owner o k)
        owners members m (Some l) h.owners_long m_in (λ same _. same refl) (λ y _ apart _ other. other apart) x x_in is isnt

    not_last : last ≡ m → ⊥
    not_last same =
        elim (linked_before (node_at nexts) (node_at befores) end (get_or lists l []) end (h.linked l l_in)) [
          | inl first ↦ omega arith
          | inr listed ↦
              both_ways _ (none l l_in)
              (subst (λ (y : ℕ). is_listed (get_or lists l []) y ≡ true) (sym is_last ∙ same) listed)
        ]

    pushes : Pushes (node_at nexts) (node_at befores) (node_at (set (set nexts last m) m end))
        (node_at (set (set befores m last) end m)) last m end
    pushes = record {
      was_last = ap (node_at nexts) is_last ∙ linked_last _ _ end (get_or lists l []) end (h.linked l l_in);
      was_before = sym is_last;
      nexts = sets_two nexts last m m end (omega (arith, h.nexts_long)) (omega (arith, h.nexts_long))
          (λ same. absurd (not_last same));
      befores = sets_two befores m last end m (omega (arith, h.befores_long)) (omega (arith, h.befores_long))
          (λ same. absurd (omega arith));
    }

-- ---- a member less

pub holds_unlink :
    (members : ℕ) (nexts befores : List ℕ) (owners : List (Option ℕ)) (lists : List (List ℕ)) (l m : ℕ)
    → Holds members nexts befores owners lists → m < members → owner_at owners m ≡ Some l
    → Holds members (set nexts (node_at befores m) (node_at nexts m)) (set befores (node_at nexts m) (node_at befores m))
    (set owners m None) (map (others m) lists)
holds_unlink members nexts befores owners lists l m h m_in is_owned = record {
  nexts_long = length-set nexts before next ∙ (h.nexts_long ∙ same);
  befores_long = length-set befores next before ∙ (h.befores_long ∙ same);
  owners_long = length-set owners m None ∙ h.owners_long;
  nexts_inside = at_same (set nexts before next) (inside_set nexts nodes before next h.nexts_long next_in h.nexts_inside);
  befores_inside = at_same (set befores next before) (inside_set befores nodes next before h.befores_long before_in h.befores_inside);
  owned = λ k x k_in x_in.
      at_each_without (λ k xs. is_listed xs x ≡ is_owner (owner_at (set owners m None) x) k) lists m
      (λ j j_in.
      at_each_owner (λ y o. is_listed (others m (get_or lists j [])) y ≡ is_owner o j) owners members m None h.owners_long m_in
      (unlisted_others m (get_or lists j []))
      (λ y y_in apart. listed_others m (get_or lists j []) y (λ is. apart (sym is)) ∙ h.owned j y j_in y_in)
      x x_in) k k_in;
  owner_exists = λ k x x_in.
      subst (λ (n : ℕ). owner_at (set owners m None) x ≡ Some k → k < n) (sym (length-map lists (others m)))
      (at_each_owner (λ _ o. o ≡ Some k → k < length lists) owners members m None h.owners_long m_in
      (λ is. absurd (cc)) (λ y y_in _ is. h.owner_exists k y y_in is) x x_in);
  below = λ k x k_in.
      at_each_without (λ _ xs. is_listed xs x ≡ true → x < members) lists m
      (λ j j_in listed.
      elim (cases_eq m x) [
        | inl is ↦ omega arith
        | inr apart ↦ h.below j x j_in (sym (listed_others m (get_or lists j []) x apart) ∙ listed)
      ]) k k_in;
  once = at_each_without (λ _ xs. Once xs) lists m (λ k k_in. Once-others m (get_or lists k []) (h.once k k_in));
  linked = at_each_without
      (λ k xs. Linked (node_at (set nexts before next)) (node_at (set befores next before)) (members + k) xs (members + k))
      lists m (λ k k_in. by_test k k_in (is_listed (get_or lists k []) m) refl);
}
  where
    before : ℕ
    before = node_at befores m

    next : ℕ
    next = node_at nexts m

    nodes : ℕ
    nodes = members + length lists

    same : nodes ≡ members + length (map (others m) lists)
    same = ap (λ n. members + n) (sym (length-map lists (others m)))

    at_same : (xs : List ℕ) → ((a : ℕ) → a < nodes → node_at xs a < nodes)
        → (a : ℕ) → a < members + length (map (others m) lists) → node_at xs a < members + length (map (others m) lists)
    at_same xs = subst (λ (n : ℕ). (a : ℕ) → a < n → node_at xs a < n) same

    before_in : before < nodes
    before_in = h.befores_inside m (omega arith)

    next_in : next < nodes
    next_in = h.nexts_inside m (omega arith)

    unlinks : Unlinks (node_at nexts) (node_at befores) (node_at (set nexts before next)) (node_at (set befores next before)) m
    unlinks =
        let l_in = h.owner_exists l m m_in is_owned in
        let both = linked_both_ways (node_at nexts) (node_at befores) (members + l) (get_or lists l []) (members + l) m (h.linked l l_in)
        (h.owned l m l_in m_in ∙ (ap (λ o. is_owner o l) is_owned ∙ eq-eqb l l refl)) in
        record {
          next_of_before = both.0;
          before_of_next = both.1;
          nexts = sets_one nexts before next (omega (arith, h.nexts_long, before_in));
          befores = sets_one befores next before (omega (arith, h.befores_long, next_in));
        }

    by_test : (k : ℕ) → k < length lists → (b : Bool) → is_listed (get_or lists k []) m ≡ b
        → Linked (node_at (set nexts before next)) (node_at (set befores next before)) (members + k)
        (others m (get_or lists k [])) (members + k)
    by_test k k_in true listed =
        linked_unlink _ _ _ _ m unlinks (members + k) (get_or lists k []) (members + k) (λ is. absurd (omega arith))
        (λ is. absurd (omega arith)) listed (h.once k k_in) (h.linked k k_in)
    by_test k k_in false none =
        subst (λ (xs : List ℕ). Linked (node_at (set nexts before next)) (node_at (set befores next before)) (members + k) xs (members + k))
        (sym (others-unlisted m (get_or lists k []) none))
        (linked_beside_unlink _ _ _ _ m unlinks (members + k) (get_or lists k []) (members + k) (λ is. absurd (omega arith))
        (λ is. absurd (omega arith)) none (h.linked k k_in))

-- ---- no members

pub holds_empty :
    (members lists : ℕ) (nexts befores : List ℕ) (owners : List (Option ℕ)) → IsEachAlone (members + lists) nexts
    → IsEachAlone (members + lists) befores → owners ≡ replicate members None
    → Holds members nexts befores owners (replicate lists [])
holds_empty members lists nexts befores owners n b free = record {
  nexts_long = n.long ∙ same;
  befores_long = b.long ∙ same;
  owners_long = ap length free ∙ length-replicate members None;
  nexts_inside = λ a a_in. let here : node_at nexts a ≡ a = n.alone a (omega (arith, same)) in omega arith;
  befores_inside = λ a a_in. let here : node_at befores a ≡ a = b.alone a (omega (arith, same)) in omega arith;
  owned = λ l x l_in x_in.
      ap (λ xs. is_listed xs x) (empty l (omega (arith, count))) ∙ sym (ap (λ o. is_owner o l) (unowned x x_in));
  owner_exists = λ l x x_in is. let no : None ≡ Some l = sym (unowned x x_in) ∙ is in absurd (cc);
  below = λ l x l_in listed.
      let no : false ≡ true = sym (ap (λ xs. is_listed xs x) (empty l (omega (arith, count)))) ∙ listed in
      absurd (cc);
  once = λ l l_in. subst Once (sym (empty l (omega (arith, count)))) tt;
  linked = λ l l_in.
      subst (λ (xs : List ℕ). Linked (node_at nexts) (node_at befores) (members + l) xs (members + l))
      (sym (empty l (omega (arith, count))))
      (n.alone (members + l) (omega (arith, count)), b.alone (members + l) (omega (arith, count)));
}
  where
    none : List ℕ
    none = []

    count : length (replicate lists none) ≡ lists
    count = length-replicate lists none

    same : members + lists ≡ members + length (replicate lists none)
    same = ap (λ n. members + n) (sym count)

    empty : (l : ℕ) → l < lists → get_or (replicate lists none) l none ≡ none
    empty l l_in = get_or-replicate lists l none none l_in

    unowned : (x : ℕ) → x < members → owner_at owners x ≡ None
    unowned x x_in = ap (λ os. owner_at os x) free ∙ get_or-replicate members x None None x_in
