use Rattle.std.proofs.Common.{List, Option, is_some, length, ap, ◌∙◌}
use Rattle.xs_raster.specs.declared.tile.Tile.{Tile}
use Rattle.xs_core.specs.Counts.{how_many}
use Rattle.xs_core.specs.States.{tile_of}
use Rattle.xs_core.specs.Kept.{CoreRecord}
use Rattle.xs_core.proofs.CountLemmas.{how_many-alike}
use Rattle.xs_plain_desk.specs.Stored.{is_held, tile_at}
use Rattle.xs_plain_desk.proofs.store.Store.held.Goals as goal

pub returns : goal.returns
returns g c =
    let core = c.self.inside.core in
    let tiles = c.self.inside.tiles.items in
    c.how_many_there.ensures
    ∙ ap (λ (l : List (Option Tile)). how_many (length l) (λ k. is_some (tile_at l k))) c.as_slice.ensures.value
    ∙ ap (λ n. how_many n (λ k. is_some (tile_at tiles k))) c.self.invariant.many
    ∙ how_many-alike (length core.plan.entries) (λ k. is_some (tile_at tiles k)) (λ k. is_held (tile_of core.world k)) (λ k less. c.self.invariant.there k)
    ∙ ap (λ (o : CoreRecord). how_many (length o.plan.entries) (λ k. is_held (tile_of o.world k))) c.self.view_is
