-- Without a cycle no path is as long as there are nodes.
use Rattle.std.proofs.Common.{◌≡◌, ◌≢◌, ◌<◌, ◌≤◌, ℕ, zero, suc, List, [], ◌∷◌, AllPairs, Contains, length, get_or, refl, sym, ◌∙◌, ap, subst, eqb, inl, inr, arith}
use Rattle.std.proofs.lemmas.Bool.{eqb-true, cases_lt}
use Rattle.std.proofs.lemmas.Bool.Decides.{Decides-eqb}
use Rattle.std.proofs.lemmas.List.Folds.{Any-from_list_any}
use Rattle.std.proofs.lemmas.List.Kept.{AllPairs-cons}
use Rattle.std.proofs.lemmas.Map.Made.{IsDistinct-from_AllPairs}
use Rattle.std.proofs.lemmas.Map.Steps.{length-le_from_distinct_below}
use Rattle.xs_graph.specs.Paths.{Links, successors, Leads, LiesOnCycle, HasChain}

module _ (links : Links) (inside : (a c : ℕ) → Contains (successors links a) c → c < length links)
    (acyclic : (a : ℕ) → a < length links → LiesOnCycle links a → ⊥) where
  unfoldable points : (steps a b : ℕ) → Leads links steps a b → List ℕ
  unfolding Leads
  points zero a b path = a ∷ []
  points (suc steps) a b (c, targets, path) = a ∷ points steps c b path

  points_length : (steps a b : ℕ) (path : Leads links steps a b) → length (points steps a b path) ≡ suc steps
  unfolding Leads points
  points_length zero a b path = refl
  points_length (suc steps) a b (c, targets, path) = ap suc (points_length steps c b path)

  point_reached : (steps a b : ℕ) (path : Leads links steps a b) (k d : ℕ) → k < length (points steps a b path)
      → (j : ℕ) × Leads links j a (get_or (points steps a b path) k d)
  unfolding Leads points
  point_reached zero a b path zero d below = (0, refl)
  point_reached zero a b path (suc k) d below = absurd (omega arith)
  point_reached (suc steps) a b (c, targets, path) zero d below = (0, refl)
  point_reached (suc steps) a b (c, targets, path) (suc k) d below =
      let (j, rest) = point_reached steps c b path k d (omega arith) in
      (suc j, (c, targets, rest))

  point_below : (steps a b : ℕ) (path : Leads links steps a b) → a < length links → (k d : ℕ) → k < length (points steps a b path)
      → get_or (points steps a b path) k d < length links
  unfolding Leads points
  point_below zero a b path here zero d below = here
  point_below zero a b path here (suc k) d below = absurd (omega arith)
  point_below (suc steps) a b (c, targets, path) here zero d below = here
  point_below (suc steps) a b (c, targets, path) here (suc k) d below = point_below steps c b path (inside a c targets) k d (omega arith)

  points_differ : (steps a b : ℕ) (path : Leads links steps a b) → a < length links → AllPairs (λ x y. x ≢ y) (points steps a b path)
  unfolding Leads points
  points_differ zero a b path here = λ i j d less below. absurd (omega arith)
  points_differ (suc steps) a b (c, targets, path) here =
      AllPairs-cons (λ (x : ℕ) (y : ℕ). x ≢ y) a (points steps c b path)
      (λ k d below same.
      let (j, rest) = point_reached steps c b path k d below in
      acyclic a here (record { steps = j; path = (c, targets, subst (λ (x : ℕ). Leads links j c x) (sym same) rest) }))
      (points_differ steps c b path (inside a c targets))

  no_long_path : (steps a b : ℕ) → Leads links steps a b → a < length links → length links ≤ steps → ⊥
  no_long_path steps a b path here long =
      let most : length (points steps a b path) ≤ length links =
      length-le_from_distinct_below (points steps a b path) (length links)
      (IsDistinct-from_AllPairs Decides-eqb (points steps a b path) (points_differ steps a b path here))
      (λ q found.
      let (k, x, below, is, same) = Any-from_list_any (eqb q) (points steps a b path) found in
      subst (λ (y : ℕ). y < length links) (is ∙ sym (eqb-true q x same)) (point_below steps a b path here k x below)) in
      let long_is = points_length steps a b path in
      omega arith

  pub short_chain : (steps a : ℕ) → a < length links → HasChain links steps a → steps < length links
  short_chain steps a here chain =
      elim (cases_lt steps (length links)) [ inl fewer ↦ fewer | inr long ↦ absurd (no_long_path steps a chain.end chain.path here long) ]
