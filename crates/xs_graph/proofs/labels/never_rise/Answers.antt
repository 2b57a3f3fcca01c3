use Rattle.std.proofs.Common.{◌≡◌, ◌<◌, ◌≤◌, ◌∙◌, ℕ, Bool, IsTrue, List, [], All, length, slice_index, subst, sym, arith}
use Rattle.std.proofs.lemmas.List.{get_or_default}
use Rattle.xs_graph.specs.Paths.{successors}
use Rattle.xs_graph.proofs.labels.never_rise.Goals as goal

pub returns-then-not-are_within : goal.returns-then-not-are_within
returns-then-not-are_within c =
    let links = c.args.links.now in
    let labels = c.args.labels.now in
    let below : c.loop-i.i < length links = omega arith in
    let is : c.items.result.now ≡ successors links c.loop-i.i =
    c.items.ensures ∙ c.index-links-i.is ∙ get_or_default links c.loop-i.i c.index-links-i.result [] below in (
      λ no. absurd (cc),
      λ never.
          subst (λ (b : Bool). IsTrue b) c.if-not-are_within.true
          (c.are_within.ensures.1
          (subst (λ (most : ℕ). All (λ (b : ℕ). slice_index labels b ≤ most) c.items.result.now) (sym c.label_of.ensures)
          (subst (λ (l : List ℕ). All (λ (b : ℕ). slice_index labels b ≤ slice_index labels c.loop-i.i) l) (sym is)
          (never c.loop-i.i below)))),
    )
