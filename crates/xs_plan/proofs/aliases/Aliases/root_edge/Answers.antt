-- A row's tile reads the alias at its place.
use Rattle.std.proofs.Common.{◌≡◌, ◌<◌, ◌/◌, ◌%◌, Some, length, slice_index, sym, ap, ◌∙◌}
use Rattle.std.proofs.lemmas.List.{get_or_read}
use Rattle.xs_plan.specs.declared.job.Reader.TheVariants.{Root}
use Rattle.xs_plan.specs.Reads.{edge}
use Rattle.xs_plan.proofs.ReadLemmas.{root_edges-at}
use Rattle.xs_plan.proofs.aliases.Aliases.root_edge.Goals as goal

pub returns : goal.returns
returns c =
    let roots = c.self.inside.roots.items in
    let place = c.args.place in
    let tiles = c.args.tiles in
    let there : place < length roots = rw (← c.self.view_is) at c.requires.there in
    let source : slice_index roots place ≡ c.index.result.now = sym (get_or_read roots place _ there c.index.ensures 0) in
    rw (← c.self.view_is)
    (root_edges-at tiles roots place there ∙ ap (λ s. Some (edge s (Root (place / tiles) (place % tiles)))) source)
