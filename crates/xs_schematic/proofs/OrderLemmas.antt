-- The order of visits has every node once, and each after its inputs
use Rattle.std.proofs.Common.{◌≡◌, ℕ, zero, suc, true, false, cond, ◌+◌, ◌-◌, ◌<◌, ◌≤◌, length, get_or, slice_get, zero-add, map-id, Option, Some, None, List, [], ◌∷◌, ◌++◌, Contains, refl, sym, ap, ◌∙◌, subst, arith}
use Rattle.std.specs.Option.{option_map_or}
use Rattle.std.specs.List.{range_with_len, AllByRecursion as Each}
use Rattle.std.proofs.lemmas.Bool.{cond_both}
use Rattle.std.proofs.lemmas.List.Elements.{All-from_recursion, recursion_from_All}
use Rattle.std.proofs.lemmas.List.FromFn.{length-range_with_len, get_or-range_with_len, map-range_with_len_more}
use Rattle.xs_scene.specs.declared.node.Ref.{Ref}
use Rattle.xs_scene.specs.declared.node.Ref.TheVariants.{Column as ToColumn, Node as ToNode}
use Rattle.xs_scene.specs.declared.node.Node.{Node}
use Rattle.xs_scene.specs.declared.node.Node.TheVariants.{Pair, Card, Shuffle, Blur, Keep, Delete}
use Rattle.xs_scene.specs.Records.{SheetRecord}
use Rattle.xs_meaning.specs.Ends.{NodesEnd, InputsHave}
use Rattle.xs_base.specs.Listed.{is_listed}
use Rattle.xs_meaning.specs.Inputs.{nodes_of, inputs_of}
use Rattle.xs_base.specs.Once.{with_one}
use Rattle.xs_schematic.specs.Order.{IsOrderable, IsOrder}
use Rattle.xs_schematic.specs.Visits.{inputs_in, visit_all, visit_node, visits_of}
use Rattle.xs_schematic.proofs.Standing.{IsBegun, IsBegun-nil, IsVisited, IsVisited-with_one, AreVisited-visit_all}
use Rattle.xs_base.proofs.OnceLemmas.{Contains-listed}

pub Each-append : (P : ℕ → Type 0) (xs ys : List ℕ) → Each P xs → Each P ys → Each P (xs ++ ys)
Each-append P [] ys first second = second
Each-append P (x ∷ xs) ys first second = (first.0, Each-append P xs ys first.1 second)

Each-both : (P Q : ℕ → Type 0) (xs : List ℕ) → Each P xs → Each Q xs → Each (λ x. P x × Q x) xs
Each-both P Q [] first second = tt
Each-both P Q (x ∷ xs) first second = ((first.0, second.0), Each-both P Q xs first.1 second.1)

abbrev Ends : SheetRecord → ℕ → ℕ → Type 0
Ends k m n = NodesEnd k m (ToNode n)

ends_of : (k : SheetRecord) (m : ℕ) (r : Ref) → NodesEnd k m r → Each (Ends k m) (nodes_of r)
ends_of k m (ToColumn c) ends = tt
ends_of k m (ToNode n) ends = (ends, tt)

inputs_end : (k : SheetRecord) (m : ℕ) (node : Option Node) → InputsHave (NodesEnd k m) node → Each (Ends k m) (option_map_or inputs_of node [])
inputs_end k m None ends = tt
inputs_end k m (Some (Pair op first second)) ends =
    Each-append (Ends k m) (nodes_of first) (nodes_of second) (ends_of k m first ends.0) (ends_of k m second ends.1)
inputs_end k m (Some (Card style)) ends = tt
inputs_end k m (Some (Shuffle input list)) ends = ends_of k m input ends
inputs_end k m (Some (Blur input radius)) ends = ends_of k m input ends
inputs_end k m (Some (Keep input styles)) ends = ends_of k m input ends
inputs_end k m (Some (Delete input styles)) ends = ends_of k m input ends

-- the inputs of a node are nodes whose ways end one node earlier
pub inputs_that_end :
    (k : SheetRecord) → IsOrderable k → (m n : ℕ) → n < length k.nodes → NodesEnd k (suc m) (ToNode n)
    → Each (λ x. (x < length k.nodes) × Ends k m x) (inputs_in k.nodes n)
unfolding NodesEnd
inputs_that_end k orderable m n node ends =
    Each-both (λ x. x < length k.nodes) (Ends k m) (inputs_in k.nodes n)
    (recursion_from_All (λ x. x < length k.nodes) (inputs_in k.nodes n) (orderable.inputs n node))
    (inputs_end k m (slice_get k.nodes n) ends)

pub IsVisited-visit_node :
    (k : SheetRecord) → IsOrderable k → (m n : ℕ) → n < length k.nodes → NodesEnd k m (ToNode n)
    → (order : List ℕ) → IsBegun k.nodes order → IsVisited k.nodes order n (visit_node k.nodes m n order)
unfolding NodesEnd visit_node
IsVisited-visit_node k orderable zero n node ends order begun = absurd ends
IsVisited-visit_node k orderable (suc m) n node ends order begun =
    let nodes = k.nodes in
    let inputs = inputs_in nodes n in
    let each = inputs_that_end k orderable m n node ends in
    let all =
    AreVisited-visit_all nodes (λ x. (x < length nodes) × Ends k m x) (visit_node nodes m)
    (λ x is. IsVisited-visit_node k orderable m x is.0 is.1) inputs each order begun
    in
    let new = visit_all (visit_node nodes m) inputs order in
    let put = IsVisited-with_one nodes new n node (All-from_recursion (Contains new) inputs all.has) all.begun in
    cond_both (is_listed order n) order (with_one new n) (IsVisited nodes order n)
    (λ stands. record { begun = begun; keeps = λ x at. at; has = Contains-listed order n stands })
    (λ fails. record { begun = put.begun; keeps = λ x at. put.keeps x (all.keeps x at); has = put.has })

-- the numbers of all nodes are those of nodes whose ways end
pub numbers_that_end :
    (k : SheetRecord) → IsOrderable k
    → Each (λ n. (n < length k.nodes) × Ends k (length k.nodes) n) (range_with_len 0 (length k.nodes))
numbers_that_end k orderable =
    let count = length k.nodes in
    recursion_from_All (λ n. (n < count) × Ends k count n) (range_with_len 0 count)
    (λ i d lt.
    let inside : i < count = omega (arith, length-range_with_len 0 count) in
    let below : get_or (range_with_len 0 count) i d < count = omega (arith, get_or-range_with_len 0 count i d inside) in
    (below, orderable.ends _ below))

pub IsOrder-visits_of : (k : SheetRecord) → IsOrderable k → IsOrder k (visits_of k.nodes)
unfolding visits_of
IsOrder-visits_of k orderable =
    let nodes = k.nodes in
    let count = length nodes in
    let numbers = range_with_len 0 count in
    let all =
    AreVisited-visit_all nodes (λ n. (n < count) × Ends k count n) (visit_node nodes count)
    (λ n is. IsVisited-visit_node k orderable count n is.0 is.1) numbers (numbers_that_end k orderable) [] (IsBegun-nil nodes)
    in
    let has = All-from_recursion (Contains (visit_all (visit_node nodes count) numbers [])) numbers all.has in
    record {
      nodes = all.begun.below;
      once = all.begun.once;
      all = λ n lt.
          subst (Contains (visit_all (visit_node nodes count) numbers [])) (get_or-range_with_len 0 count n 0 lt ∙ zero-add n)
          (has n 0 (omega (arith, length-range_with_len 0 count)));
      inputs_first = all.begun.after;
    }

visit_all-append :
    (visit : ℕ → List ℕ → List ℕ) (ms ns order : List ℕ) → visit_all visit (ms ++ ns) order ≡ visit_all visit ns (visit_all visit ms order)
visit_all-append visit [] ns order = refl
visit_all-append visit (m ∷ ms) ns order = visit_all-append visit ms ns (visit m order)

range_with_len_more : (a n : ℕ) → range_with_len a (n + 1) ≡ range_with_len a n ++ (a + n) ∷ []
range_with_len_more a n =
    sym (map-id (range_with_len a (n + 1)))
    ∙ map-range_with_len_more (λ k. k) a n (a + n) refl
    ∙ ap (λ xs. xs ++ (a + n) ∷ []) (map-id (range_with_len a n))

-- the visit to the next number
pub visits_more :
    (visit : ℕ → List ℕ → List ℕ) (n : ℕ) (order : List ℕ)
    → visit_all visit (range_with_len 0 (n + 1)) order ≡ visit n (visit_all visit (range_with_len 0 n) order)
visits_more visit n order =
    ap (λ ns. visit_all visit ns order) (range_with_len_more 0 n)
    ∙ visit_all-append visit (range_with_len 0 n) ((0 + n) ∷ []) order
    ∙ ap (λ m. visit m (visit_all visit (range_with_len 0 n) order)) (zero-add n)

pub visit_node-zero : (nodes : List Node) (m n : ℕ) (order : List ℕ) → m ≡ 0 → order ≡ visit_node nodes m n order
unfolding visit_node
visit_node-zero nodes zero n order none = refl
visit_node-zero nodes (suc m) n order none = absurd (omega arith)

-- a node that stands in the order is not visited again
pub visit_node-stands : (nodes : List Node) (m n : ℕ) (order : List ℕ) → is_listed order n ≡ true → order ≡ visit_node nodes m n order
unfolding visit_node
visit_node-stands nodes zero n order stands = refl
visit_node-stands nodes (suc m) n order stands =
    sym (ap (λ b. cond b order (with_one (visit_all (visit_node nodes m) (inputs_in nodes n) order) n)) stands)

-- another one comes after its inputs
pub visit_node-new :
    (nodes : List Node) (m n : ℕ) (order first second : List ℕ) (inputs : List ℕ × List ℕ) → 1 ≤ m → is_listed order n ≡ false
    → inputs.0 ++ inputs.1 ≡ inputs_in nodes n
    → first ≡ visit_all (visit_node nodes (m - 1)) inputs.0 order
    → second ≡ visit_all (visit_node nodes (m - 1)) inputs.1 first
    → with_one second n ≡ visit_node nodes m n order
unfolding visit_node
visit_node-new nodes zero n order first second inputs positive fails are visited both = absurd (omega arith)
visit_node-new nodes (suc m) n order first second inputs positive fails are visited both =
    let less : suc m - 1 ≡ m = omega arith in
    let v = visit_node nodes m in
    let all : second ≡ visit_all v (inputs_in nodes n) order =
    both ∙ ap (λ l. visit_all (visit_node nodes l) inputs.1 first) less
    ∙ ap (visit_all v inputs.1) (visited ∙ ap (λ l. visit_all (visit_node nodes l) inputs.0 order) less)
    ∙ sym (visit_all-append v inputs.0 inputs.1 order) ∙ ap (λ ns. visit_all v ns order) are
    in
    ap (λ (was : List ℕ). with_one was n) all ∙ sym (ap (λ b. cond b order (with_one (visit_all v (inputs_in nodes n) order) n)) fails)

-- once all numbers are visited
pub visits-all :
    (nodes : List Node) (order : List ℕ) (n : ℕ) → n ≡ length nodes
    → order ≡ visit_all (visit_node nodes (length nodes)) (range_with_len 0 n) [] → order ≡ visits_of nodes
unfolding visits_of
visits-all nodes order n all is =
    is ∙ ap (λ m. visit_all (visit_node nodes (length nodes)) (range_with_len 0 m) []) all
