use Rattle.std.proofs.Common.{◌<◌, ◌≤◌, ℕ, zero, suc, Option, Some, None, IfSome, List, [], Contains, length, get_or, subst, inl, inr, arith}
use Rattle.std.proofs.lemmas.Bool.{cases_lt}
use Rattle.std.proofs.lemmas.List.{get_or_past}
use Rattle.std.proofs.lemmas.List.Elements.{All-contains}
use Rattle.xs_graph.specs.Labels.{NeverRise, Falls}
use Rattle.xs_base.specs.First.{IsFirstWithout}
use Rattle.xs_graph.specs.Paths.{Links, successors, Leads, LiesOnCycle}

module _ (links : Links) (labels : List ℕ) (never : NeverRise links labels) where
  successor_no_greater : (a c : ℕ) → Contains (successors links a) c → get_or labels c 0 ≤ get_or labels a 0
  successor_no_greater a c targets =
      elim (cases_lt a (length links)) [
        | inl below ↦ All-contains (λ c. get_or labels c 0 ≤ get_or labels a 0) (successors links a) c (never a below) targets
        | inr past ↦
            let (k, inside, is) = subst (λ (l : List ℕ). Contains l c) (get_or_past links a [] past) targets in
            absurd (omega arith)
      ]

  -- along a path labels never rise
  path_no_greater : (steps a b : ℕ) → Leads links steps a b → get_or labels b 0 ≤ get_or labels a 0
  unfolding Leads
  path_no_greater zero a b is = subst (λ (x : ℕ). get_or labels x 0 ≤ get_or labels a 0) is (omega arith)
  path_no_greater (suc steps) a b (c, targets, path) =
      let first = successor_no_greater a c targets in
      let rest = path_no_greater steps c b path in
      omega arith

  cycle_needs : (a steps : ℕ) → Falls links labels a → Leads links (suc steps) a a → ⊥
  unfolding Leads
  cycle_needs a steps falls (c, targets, path) =
      let less : get_or labels c 0 < get_or labels a 0 =
      All-contains (λ c. get_or labels c 0 < get_or labels a 0) (successors links a) c falls targets in
      let back = path_no_greater steps c a path in
      omega arith

  -- a node that links only to nodes with smaller labels lies on no cycle
  falls_no_cycle : (a : ℕ) → Falls links labels a → LiesOnCycle links a → ⊥
  falls_no_cycle a falls cycle = cycle_needs a cycle.steps falls cycle.path

  -- the first that links to one with no smaller label is the first on a cycle, if it is on one
  pub first_on_cycle_told : (n : ℕ) (first : Option ℕ) → IsFirstWithout (Falls links labels) n first → IfSome first (LiesOnCycle links)
      → IsFirstWithout (λ a. LiesOnCycle links a → ⊥) n first
  first_on_cycle_told n None h cycle = λ i below. falls_no_cycle i (h i below)
  first_on_cycle_told n (Some i) (below, level, before) cycle = (
    below,
    λ none. none cycle,
    λ j less. falls_no_cycle j (before j less),
  )
