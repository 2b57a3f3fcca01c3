use Rattle.std.proofs.Common.{◌≡◌, ◌<◌, ◌≤◌, ◌+◌, ◌⊎◌, ℕ, zero, suc, Bool, true, false, cond, List, [], ◌∷◌, ◌++◌, All, Contains, length, map, get_or, set, refl, sym, ◌∙◌, subst, inl, inr, arith}
use Rattle.std.proofs.Math.ListN.{get_or-map}
use Rattle.std.proofs.lemmas.Bool.{false≢true, cases_lt}
use Rattle.std.proofs.lemmas.Grind.{get_or-set_at}
use Rattle.std.proofs.lemmas.List.{get_or_past, get_or_default, get_or_append_left, get_or-set_same, get_or-set_other, length-append, length-map, length-set}
use Rattle.std.proofs.lemmas.List.Elements.{All-push, All-append, Contains-push, Contains-get_or, Contains-append_left, Contains-append_right, Contains-append_cases}
use Rattle.xs_graph.specs.Paths.{Links, successors, Leads, LiesOnCycle}
use Rattle.xs_graph.specs.Search.{is_noted, Grows, Searching}
use Rattle.xs_graph.proofs.ChainMarks.{leads_on}

-- ---- marks

module _ (seen : List Bool) (x : ℕ) (below : x < length seen) where
  stays_noted : (y : ℕ) (d : Bool) → get_or seen y d ≡ true → get_or (set seen x true) y d ≡ true
  stays_noted y d h =
      elim (cases_lt y x) [
        | inl less ↦ get_or-set_other seen x y true d (λ same. absurd (omega arith)) ∙ h
        | inr most ↦
            elim (cases_lt x y) [
              | inl more ↦ get_or-set_other seen x y true d (λ same. absurd (omega arith)) ∙ h
              | inr least ↦ get_or-set_at seen x y true d (omega arith) below
            ]
      ]

  noted_or_new : (y : ℕ) (d : Bool) → get_or (set seen x true) y d ≡ true → (y ≡ x) ⊎ (get_or seen y d ≡ true)
  noted_or_new y d h =
      elim (cases_lt y x) [
        | inl less ↦ inr (sym (get_or-set_other seen x y true d (λ same. absurd (omega arith))) ∙ h)
        | inr most ↦
            elim (cases_lt x y) [
              | inl more ↦ inr (sym (get_or-set_other seen x y true d (λ same. absurd (omega arith))) ∙ h)
              | inr least ↦ inl (omega arith)
            ]
      ]

unnoted_below : (seen : List Bool) (x : ℕ) → is_noted seen x ≡ false → x < length seen
unnoted_below seen x is =
    elim (cases_lt x (length seen))
    [ inl below ↦ below | inr past ↦ absurd (false≢true (sym is ∙ get_or_past seen x true past)) ]

-- ---- some numbers more

grows_new : (seen : List Bool) (met : List ℕ) (x : ℕ) → x < length seen → Grows seen met (x ∷ []) (set seen x true) (met ++ x ∷ [])
grows_new seen met x below =
    record {
      as_long = length-set seen x true;
      kept = λ y h. stays_noted seen x below y true h;
      noted = All-push (λ y. is_noted (set seen x true) y ≡ true) [] x (λ k d none. absurd (omega arith)) (get_or-set_same seen x true true below);
      marked =
          λ h y marked.
          elim (noted_or_new seen x below y false marked) [
            | inl same ↦ subst (λ (z : ℕ). Contains (met ++ x ∷ []) z) (sym same) (Contains-push met x)
            | inr old ↦ Contains-append_left met (x ∷ []) y (h y old)
          ];
      more = simp length-append (omega arith);
      before = λ k before. get_or_append_left met (x ∷ []) 0 k before;
      from = λ y h. Contains-append_cases met (x ∷ []) y h;
    }

grows_by : (seen : List Bool) (met : List ℕ) (x : ℕ) (b : Bool) → is_noted seen x ≡ b
    → Grows seen met (x ∷ []) (cond b seen (set seen x true)) (cond b met (met ++ x ∷ []))
grows_by seen met x true is =
    record {
      as_long = refl;
      kept = λ y h. h;
      noted = All-push (λ y. is_noted seen y ≡ true) [] x (λ k d none. absurd (omega arith)) is;
      marked = λ h. h;
      more = omega arith;
      before = λ k below. refl;
      from = λ y h. inl h;
    }
grows_by seen met x false is = grows_new seen met x (unnoted_below seen x is)

pub grows_one : (seen : List Bool) (met : List ℕ) (x : ℕ)
    → Grows seen met (x ∷ []) (cond (is_noted seen x) seen (set seen x true)) (cond (is_noted seen x) met (met ++ x ∷ []))
grows_one seen met x = grows_by seen met x (is_noted seen x) refl

pub grows_then : (seen : List Bool) (met targets : List ℕ) (seen1 : List Bool) (met1 named1 : List ℕ) (seen2 : List Bool) (met2 : List ℕ)
    → Grows seen met targets seen1 met1 → Grows seen1 met1 named1 seen2 met2 → Grows seen met (targets ++ named1) seen2 met2
grows_then seen met targets seen1 met1 named1 seen2 met2 g h =
    record {
      as_long = h.as_long ∙ g.as_long;
      kept = λ x noted. h.kept x (g.kept x noted);
      noted = All-append (λ x. is_noted seen2 x ≡ true) targets named1 (λ k d below. h.kept (get_or targets k d) (g.noted k d below)) h.noted;
      marked = λ marked. h.marked (g.marked marked);
      more = let a = g.more in let b = h.more in omega arith;
      before = λ k below. h.before k (let a = g.more in omega arith) ∙ g.before k below;
      from =
          λ x c.
          elim (h.from x c) [
            | inl m ↦
                elim (g.from x m) [ inl a ↦ inl a | inr b ↦ inr (Contains-append_left targets named1 x b) ]
            | inr n ↦ inr (Contains-append_right targets named1 x n)
          ];
    }

-- ---- the search

pub search_begins : (links : Links) (from : ℕ) (none seen : List Bool) (met : List ℕ) → none ≡ map (λ targets. false) links
    → Grows none [] (successors links from) seen met → Searching links from seen met 0
unfolding Leads
search_begins links from none seen met is g =
    let unmarked : (x : ℕ) → get_or none x false ≡ false = λ x. rw is (get_or-map (λ (targets : List ℕ). false) links x []) in
    record {
      as_long = g.as_long ∙ rw is (length-map links (λ (targets : List ℕ). false));
      reached =
          λ x c.
          elim (g.from x c)
          [ inl none ↦ absurd (let below = none.1 in omega arith) | inr targets ↦ record { steps = 0; path = (x, targets, refl) } ];
      marked = g.marked (λ x marked. absurd (false≢true (sym (unmarked x) ∙ marked)));
      first = g.noted;
      closed = λ k below. absurd (omega arith);
    }

pub search_more : (links : Links) (from : ℕ) (seen : List Bool) (met : List ℕ) (done : ℕ) (seen1 : List Bool) (met1 : List ℕ)
    → Searching links from seen met done → done < length met → Grows seen met (successors links (get_or met done 0)) seen1 met1
    → Searching links from seen1 met1 (done + 1)
search_more links from seen met done seen1 met1 s below g =
    record {
      as_long = g.as_long ∙ s.as_long;
      reached =
          λ x c.
          elim (g.from x c) [
            | inl old ↦ s.reached x old
            | inr targets ↦
                let r = s.reached (get_or met done 0) (Contains-get_or met done 0 below) in
                record { steps = suc r.steps; path = leads_on links (suc r.steps) from (get_or met done 0) x r.path targets }
          ];
      marked = g.marked s.marked;
      first = λ k d inside. g.kept (get_or (successors links from) k d) (s.first k d inside);
      closed =
          λ k before.
          let less : k < length met = omega arith in
          rw (g.before k less)
          (elim (cases_lt k done) [
            | inl early ↦ λ i d inside. g.kept (get_or (successors links (get_or met k 0)) i d) (s.closed k early i d inside)
            | inr late ↦
                let same : done ≡ k = omega arith in
                subst (λ (n : ℕ). All (λ x. is_noted seen1 x ≡ true) (successors links (get_or met n 0))) same g.noted
          ]);
    }

module _ (links : Links) (from : ℕ) (seen : List Bool) (met : List ℕ) (done : ℕ) (s : Searching links from seen met done) (all : length met ≤ done) where
  -- what a noted node links to is noted
  noted_successors : (x c : ℕ) → is_noted seen x ≡ true → Contains (successors links x) c → is_noted seen c ≡ true
  noted_successors x c noted (k, inside, is) =
      elim (cases_lt x (length links)) [
        | inl below ↦
            let there : x < length seen = rw s.as_long below in
            let (j, met_at, met_is) = s.marked x (get_or_default seen x false true there ∙ noted) in
            let closed : All (λ y. is_noted seen y ≡ true) (successors links x) =
            subst (λ (y : ℕ). All (λ z. is_noted seen z ≡ true) (successors links y)) (get_or_default met j 0 x met_at ∙ met_is)
            (s.closed j (omega arith)) in
            subst (λ (y : ℕ). is_noted seen y ≡ true) is (closed k c inside)
        | inr past ↦ absurd (let none : k < 0 = subst (λ (l : List ℕ). k < length l) (get_or_past links x [] past) inside in omega arith)
      ]

  noted_paths : (steps x b : ℕ) → is_noted seen x ≡ true → Leads links steps x b → is_noted seen b ≡ true
  unfolding Leads
  noted_paths zero x b noted path = subst (λ (y : ℕ). is_noted seen y ≡ true) path noted
  noted_paths (suc steps) x b noted (c, targets, path) = noted_paths steps c b (noted_successors x c noted targets) path

  cycle_noted : (steps : ℕ) → Leads links (suc steps) from from → is_noted seen from ≡ true
  unfolding Leads
  cycle_noted steps (c, (k, inside, is), path) =
      noted_paths steps c from (subst (λ (y : ℕ). is_noted seen y ≡ true) is (s.first k c inside)) path

  -- a path leads back where the search has noted the node itself
  pub search_ends : (b : Bool) → from < length links → b ≡ get_or seen from b → (b ≡ true → LiesOnCycle links from) × (LiesOnCycle links from → b ≡ true)
  search_ends b below is =
      let there : from < length seen = rw s.as_long below in (
        λ yes. s.reached from (s.marked from (get_or_default seen from false b there ∙ sym is ∙ yes)),
        λ cycle. is ∙ get_or_default seen from b true there ∙ cycle_noted cycle.steps cycle.path,
      )
