-- The draft with one root more is one.
use Rattle.std.proofs.Common.{◌≡◌, ◌+◌, length, ap, ◌∙◌, arith}
use Rattle.std.proofs.lemmas.List.{length_push}
use Rattle.xs_plan.specs.Kept.{Rooted}
use Rattle.xs_plan.proofs.DraftLemmas.{IsDraft-root}
use Rattle.xs_plan.proofs.builder.Builder.root.Goals as goal

pub invariant_of-self-2 : goal.invariant_of-self-2
invariant_of-self-2 c =
    let inside = c.self.inside in
    let added = c.in_ok-add_root.ensures.added in
    let number : c.len-self-inside.result ≡ length inside.aliases.entries =
    c.len-self-inside.ensures.count ∙ ap (λ (a : Rooted). length a.entries) added in
    let roots : c.roots.result ≡ length inside.aliases.roots + 1 =
    c.roots.ensures ∙ ap (λ (a : Rooted). length a.roots) added ∙ length_push inside.aliases.roots c.args.k in
    let tiles : c.len.result ≡ length inside.tiles.items = omega (arith, c.len.ensures, inside.tiles.ok.0) in
    let ends = rw (c.reserve.ensures.items, number, roots, tiles) at c.end_row.ensures in
    let lacks = rw (← c.self.view_is) at c.requires.lacks_roots in
    let there = rw (← c.self.view_is) at c.requires.there in
    let on_its_tile = rw (← c.self.view_is) at c.requires.on_its_tile in
    let reaches = rw (← c.self.view_is) at c.requires.reaches in
    rw (added, number, ends) (IsDraft-root c.self.invariant c.args.k lacks there on_its_tile reaches)
