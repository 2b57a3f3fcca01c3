-- What stands in an order
use Rattle.std.proofs.Common.{◌≡◌, ◌≢◌, ℕ, ◌<◌, length, take, get_or, List, [], ◌∷◌, ◌++◌, All, AllPairs, Contains, sym, ◌∙◌, subst, ⊎_elim, arith}
use Rattle.std.specs.List.{AllByRecursion as Each}
use Rattle.std.proofs.lemmas.Bool.{cases_lt, cond_both}
use Rattle.std.proofs.lemmas.List.{get_or_default, get_or_append_left, get_or_at, take_at, take-append-le, length_push}
use Rattle.std.proofs.lemmas.List.Elements.{All-push, Contains-push, Contains-append_left}
use Rattle.std.proofs.lemmas.List.Quantifiers.{all_pairs_push}
use Rattle.xs_scene.specs.declared.node.Node.{Node}
use Rattle.xs_base.specs.Listed.{is_listed}
use Rattle.xs_schematic.specs.Visits.{inputs_in, visit_all}
use Rattle.xs_base.specs.Once.{with_one}
use Rattle.xs_base.proofs.OnceLemmas.{Contains-listed, unlisted-Contains}

-- an order so far: nodes of the sheet, each once, each after its inputs
pub record IsBegun (nodes : List Node) (order : List ℕ) : Type 0 where
  pub below : All (λ n. n < length nodes) order
  pub once : AllPairs (λ m n. m ≢ n) order
  pub after : (i : ℕ) → i < length order → All (Contains (take i order)) (inputs_in nodes (get_or order i 0))

pub IsBegun-nil : (nodes : List Node) → IsBegun nodes []
IsBegun-nil nodes =
    record { below = λ k d lt. absurd (omega arith); once = λ i j d lt long. absurd (omega arith); after = λ i lt. absurd (omega arith) }

IsBegun-push :
    (nodes : List Node) (order : List ℕ) (n : ℕ) → n < length nodes → (Contains order n → ⊥)
    → All (Contains order) (inputs_in nodes n) → IsBegun nodes order → IsBegun nodes (order ++ n ∷ [])
IsBegun-push nodes order n node new inputs begun =
    record {
      below = All-push (λ n. n < length nodes) order n begun.below node;
      once = all_pairs_push (λ m n. m ≢ n) order n begun.once
          (λ k d lt same. new (k, lt, get_or_default order k n d lt ∙ same));
      after = λ i lt. ⊎_elim (earlier i) (λ past. last i (omega (arith, length_push order n))) (cases_lt i (length order));
    }
  where
    P : ℕ → List ℕ → ℕ → Type 0
    P i front m = All (Contains front) (inputs_in nodes m)

    earlier : (i : ℕ) → i < length order → All (Contains (take i (order ++ n ∷ []))) (inputs_in nodes (get_or (order ++ n ∷ []) i 0))
    earlier i lt =
        subst (λ (m : ℕ). All (Contains (take i (order ++ n ∷ []))) (inputs_in nodes m)) (sym (get_or_append_left order (n ∷ []) 0 i lt))
        (subst (λ (front : List ℕ). All (Contains front) (inputs_in nodes (get_or order i 0)))
        (sym (take-append-le i order (n ∷ []) (omega arith))) (begun.after i lt))

    last : (i : ℕ) → length order ≡ i → All (Contains (take i (order ++ n ∷ []))) (inputs_in nodes (get_or (order ++ n ∷ []) i 0))
    last i at =
        subst (λ (m : ℕ). All (Contains (take i (order ++ n ∷ []))) (inputs_in nodes m)) (sym (get_or_at order n [] 0 i at))
        (subst (λ (front : List ℕ). All (Contains front) (inputs_in nodes n)) (sym (take_at order (n ∷ []) i at)) inputs)

abbrev pub Keeps : List ℕ → List ℕ → Type 0
Keeps old new = (x : ℕ) → Contains old x → Contains new x

-- after a visit to a node the order has it, and keeps all that it had
pub record IsVisited (nodes : List Node) (old : List ℕ) (n : ℕ) (new : List ℕ) : Type 0 where
  pub begun : IsBegun nodes new
  pub keeps : Keeps old new
  pub has : Contains new n

pub IsVisited-with_one :
    (nodes : List Node) (order : List ℕ) (n : ℕ) → n < length nodes → All (Contains order) (inputs_in nodes n)
    → IsBegun nodes order → IsVisited nodes order n (with_one order n)
IsVisited-with_one nodes order n node inputs begun =
    cond_both (is_listed order n) order (order ++ n ∷ []) (IsVisited nodes order n)
    (λ stands. record { begun = begun; keeps = λ x at. at; has = Contains-listed order n stands })
    (λ fails. record {
      begun = IsBegun-push nodes order n node (unlisted-Contains order n fails) inputs begun;
      keeps = λ x at. Contains-append_left order (n ∷ []) x at;
      has = Contains-push order n;
    })

pub record AreVisited (nodes : List Node) (old : List ℕ) (ns : List ℕ) (new : List ℕ) : Type 0 where
  pub begun : IsBegun nodes new
  pub keeps : Keeps old new
  pub has : Each (Contains new) ns

pub AreVisited-visit_all :
    (nodes : List Node) (P : ℕ → Type 0) (visit : ℕ → List ℕ → List ℕ)
    → ((n : ℕ) → P n → (order : List ℕ) → IsBegun nodes order → IsVisited nodes order n (visit n order))
    → (ns : List ℕ) → Each P ns → (order : List ℕ) → IsBegun nodes order → AreVisited nodes order ns (visit_all visit ns order)
AreVisited-visit_all nodes P visit step [] each order begun = record { begun = begun; keeps = λ x at. at; has = tt }
AreVisited-visit_all nodes P visit step (n ∷ ns) each order begun =
    let first = step n each.0 order begun in
    let rest = AreVisited-visit_all nodes P visit step ns each.1 (visit n order) first.begun in
    record { begun = rest.begun; keeps = λ x at. rest.keeps x (first.keeps x at); has = (rest.keeps n first.has, rest.has) }
