use Rattle.std.proofs.Common.{◌≡◌, ◌+◌, ◌<◌, ◌≤◌, ◌∙◌, ℕ, List, [], ◌∷◌, ◌++◌, length, get_or, sym, ap, subst, inl, inr, arith}
use Rattle.std.proofs.lemmas.Bool.{cases_lt}
use Rattle.std.proofs.lemmas.Grind.{common_steps}
use Rattle.std.proofs.lemmas.List.{get_or_default, get_or_past, get_or_append_left, get_or_at}
use Rattle.std.proofs.lemmas.List.Sorted.{IsPermutation-refl}
use Rattle.xs_index.specs.Order.{IsOrderOf}
use Rattle.xs_index.proofs.index.lists_of.Goals as goal

module _ {K H : Type 0} (group row : K → ℕ) (items_of : H → List K) (things : List H) (lists : List (List K)) (i : ℕ)
    (as_many : length lists ≡ i) (each : (n : ℕ) (d : H) → n < i → IsOrderOf group row (items_of (get_or things n d)) (get_or lists n [])) where
  -- the lists with that of one more thing
  one_more : (thing : H) (list : List K) → i < length things → thing ≡ get_or things i thing → IsOrderOf group row (items_of thing) list
      → (n : ℕ) (d : H) → n < i + 1 → IsOrderOf group row (items_of (get_or things n d)) (get_or (lists ++ list ∷ []) n [])
  one_more thing list inside is order n d below =
      elim (cases_lt n i) [
        | inl before ↦
            subst (λ (l : List K). IsOrderOf group row (items_of (get_or things n d)) l)
            (sym (get_or_append_left lists (list ∷ []) [] n (omega arith))) (each n d before)
        | inr rest ↦
            let here : n ≡ i = omega arith in
            let found : thing ≡ get_or things n d = is ∙ get_or_default things i thing d inside ∙ ap (λ (m : ℕ). get_or things m d) (sym here) in
            subst (λ (l : List K). IsOrderOf group row (items_of (get_or things n d)) l)
            (sym (get_or_at lists list [] [] n (as_many ∙ sym here)))
            (subst (λ (t : H). IsOrderOf group row (items_of t) list) found order)
      ]

  nothing : IsOrderOf group row [] []
  nothing = record { moved = IsPermutation-refl []; order = λ i j d le below. absurd (omega arith) }

  -- once there is a list of each thing, those that are not there have none
  of_all : length things ≤ i → (none : H) → items_of none ≡ [] → (n : ℕ) → IsOrderOf group row (items_of (get_or things n none)) (get_or lists n [])
  of_all all none empty n =
      elim (cases_lt n i) [
        | inl before ↦ each n none before
        | inr past ↦
            subst (λ (l : List K). IsOrderOf group row (items_of (get_or things n none)) l) (sym (get_or_past lists n [] (omega arith)))
            (subst (λ (l : List K). IsOrderOf group row l [])
            (sym (ap items_of (get_or_past things n none (omega arith)) ∙ empty)) nothing)
      ]

pub loop-thing-preserved : goal.loop-thing-preserved
loop-thing-preserved g c =
    let lists = c.loop-thing.lists.items in
    let list = c.in_ok-list.list in
    let pushed : c.push.new.self.items ≡ lists ++ list ∷ [] = grind (arith, common_steps) in
    let group = g.H.Item.HasRow.group_of in
    let row = g.H.Item.HasRow.row_of in
    let order : IsOrderOf group row (g.H.HasItems.items_of c.thing-item.result) list =
    subst (λ (l : List g.row.H-Item.Denot). IsOrderOf group row l list) c.items.ensures c.in_ok-list.ensures in (
      grind (arith, common_steps),
      λ n d below.
          subst (λ (ls : List (List g.row.H-Item.Denot)). IsOrderOf group row (g.H.HasItems.items_of (get_or c.args.things.now n d))
          (get_or ls n [])) (sym pushed)
          (one_more group row g.H.HasItems.items_of c.args.things.now lists c.loop-thing.thing-index c.loop-thing.invariant.0 c.loop-thing.invariant.1
          c.thing-item.result list (omega arith) c.thing-item.is order n d below),
    )

pub returns : goal.returns
returns g c none empty i =
    let group = g.H.Item.HasRow.group_of in
    let row = g.H.Item.HasRow.row_of in
    let things = c.args.things.now in
    subst (λ (ls : List (List g.row.H-Item.Denot)). IsOrderOf group row (g.H.HasItems.items_of (get_or things i none)) (get_or ls i [])) (sym c.of.ensures)
    (of_all group row g.H.HasItems.items_of things c.loop-thing.lists.items c.loop-thing.thing-index c.loop-thing.invariant.0 c.loop-thing.invariant.1
    (omega arith) none empty i)
