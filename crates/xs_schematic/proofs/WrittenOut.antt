-- A visit that skips what stands in the order puts there what the node is made from, written out
use Rattle.std.proofs.Common.{◌≡◌, ℕ, zero, suc, ◌<◌, length, take, drop, List, [], ◌∷◌, All, Contains, sym, ap, ◌∙◌, subst, flat_map}
use Rattle.std.specs.List.{range_with_len, AllByRecursion as Each}
use Rattle.std.proofs.lemmas.Bool.{cond_both}
use Rattle.std.proofs.lemmas.List.{get_or_default, take-append-drop}
use Rattle.std.proofs.lemmas.List.Elements.{All-from_recursion, recursion_from_All, Contains-append_left}
use Rattle.xs_scene.specs.declared.node.Ref.TheVariants.{Node as ToNode}
use Rattle.xs_scene.specs.declared.node.Node.{Node}
use Rattle.xs_scene.specs.Records.{SheetRecord}
use Rattle.xs_meaning.specs.Ends.{NodesEnd}
use Rattle.xs_base.specs.Listed.{is_listed}
use Rattle.xs_base.specs.Once.{with_one, with_each, each_once}
use Rattle.xs_schematic.specs.Order.{IsOrderable, made_from, all_made_from}
use Rattle.xs_schematic.specs.Visits.{inputs_in, visit_all, visit_node, visits_of}
use Rattle.xs_schematic.proofs.Standing.{IsBegun, IsBegun-nil}
use Rattle.xs_base.proofs.OnceLemmas.{Contains-listed, with_each-nil, with_each-one, with_each-append, with_each-known}
use Rattle.xs_schematic.proofs.OrderLemmas.{Each-append, IsVisited-visit_node, inputs_that_end, numbers_that_end}

Contains-of-take : (order : List ℕ) (i x : ℕ) → Contains (take i order) x → Contains order x
Contains-of-take order i x at =
    subst (λ (xs : List ℕ). Contains xs x) (take-append-drop i order) (Contains-append_left (take i order) (drop i order) x at)

abbrev AreMadeIn : List Node → List ℕ → ℕ → ℕ → Type 0
AreMadeIn nodes order m n = Each (Contains order) (made_from nodes m n)

all-stand :
    (nodes : List Node) (order : List ℕ) (m : ℕ) → ((n : ℕ) → Contains order n → AreMadeIn nodes order m n)
    → (ns : List ℕ) → Each (Contains order) ns → Each (Contains order) (flat_map (made_from nodes m) ns)
all-stand nodes order m step [] stand = tt
all-stand nodes order m step (x ∷ xs) stand =
    Each-append (Contains order) (made_from nodes m x) (flat_map (made_from nodes m) xs) (step x stand.0)
    (all-stand nodes order m step xs stand.1)

inputs-stand :
    (nodes : List Node) (order : List ℕ) → IsBegun nodes order → (n : ℕ) → Contains order n
    → All (Contains order) (inputs_in nodes n)
inputs-stand nodes order begun n stands =
    subst (λ (m : ℕ). All (Contains order) (inputs_in nodes m)) (get_or_default order stands.0 0 n stands.1 ∙ stands.2)
    (λ i d lt. Contains-of-take order stands.0 _ (begun.after stands.0 stands.1 i d lt))

-- all that a node of an order is made from stands in the order
made_from-stands :
    (nodes : List Node) (order : List ℕ) → IsBegun nodes order → (m n : ℕ) → Contains order n
    → AreMadeIn nodes order m n
unfolding made_from
made_from-stands nodes order begun zero n stands = tt
made_from-stands nodes order begun (suc m) n stands =
    Each-append (Contains order) (flat_map (made_from nodes m) (inputs_in nodes n)) (n ∷ [])
    (all-stand nodes order m (made_from-stands nodes order begun m) (inputs_in nodes n)
    (recursion_from_All (Contains order) (inputs_in nodes n) (inputs-stand nodes order begun n stands)))
    (stands, tt)

abbrev VisitsEach : List Node → ℕ → ℕ → List ℕ → Type 0
VisitsEach nodes m n order = visit_node nodes m n order ≡ with_each order (made_from nodes m n)

all-with_each :
    (k : SheetRecord) → IsOrderable k → (m : ℕ)
    → ((n : ℕ) → n < length k.nodes → NodesEnd k m (ToNode n) → (order : List ℕ) → IsBegun k.nodes order → VisitsEach k.nodes m n order)
    → (ns : List ℕ) → Each (λ x. (x < length k.nodes) × NodesEnd k m (ToNode x)) ns → (order : List ℕ) → IsBegun k.nodes order
    → visit_all (visit_node k.nodes m) ns order ≡ with_each order (flat_map (made_from k.nodes m) ns)
all-with_each k orderable m step [] each order begun = sym (with_each-nil order)
all-with_each k orderable m step (x ∷ xs) each order begun =
    all-with_each k orderable m step xs each.1 (visit_node k.nodes m x order)
    (IsVisited-visit_node k orderable m x each.0.0 each.0.1 order begun).begun
    ∙ ap (λ (new : List ℕ). with_each new (flat_map (made_from k.nodes m) xs)) (step x each.0.0 each.0.1 order begun)
    ∙ sym (with_each-append order (made_from k.nodes m x) (flat_map (made_from k.nodes m) xs))

-- where the nodes on its way end, a visit puts each of them behind the order
visit_node-with_each :
    (k : SheetRecord) → IsOrderable k → (m n : ℕ) → n < length k.nodes → NodesEnd k m (ToNode n)
    → (order : List ℕ) → IsBegun k.nodes order → VisitsEach k.nodes m n order
unfolding NodesEnd visit_node made_from
visit_node-with_each k orderable zero n node ends order begun = absurd ends
visit_node-with_each k orderable (suc m) n node ends order begun =
    let inputs = inputs_in k.nodes n in
    cond_both (is_listed order n) order (with_one (visit_all (visit_node k.nodes m) inputs order) n)
    (λ (new : List ℕ). new ≡ with_each order (made_from k.nodes (suc m) n))
    (λ stands. sym (with_each-known order (made_from k.nodes (suc m) n)
    (All-from_recursion (Contains order) (made_from k.nodes (suc m) n)
    (made_from-stands k.nodes order begun (suc m) n (Contains-listed order n stands)))))
    (λ fails. ap (λ (was : List ℕ). with_one was n)
    (all-with_each k orderable m (visit_node-with_each k orderable m) inputs (inputs_that_end k orderable m n node ends) order begun)
    ∙ sym (with_each-append order (flat_map (made_from k.nodes m) inputs) (n ∷ []) ∙ with_each-one _ n))

-- the visits to all nodes give each of what all nodes are made from, at its first place
pub visits_of-each_once : (k : SheetRecord) → IsOrderable k → visits_of k.nodes ≡ each_once (all_made_from k.nodes)
unfolding visits_of
visits_of-each_once k orderable =
    let count = length k.nodes in
    all-with_each k orderable count (visit_node-with_each k orderable count) (range_with_len 0 count)
    (numbers_that_end k orderable) [] (IsBegun-nil k.nodes)
