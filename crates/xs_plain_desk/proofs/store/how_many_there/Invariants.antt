use Rattle.std.proofs.Common.{◌≡◌, ◌≤◌, is_some}
use Rattle.xs_core.specs.Counts.{how_many}
use Rattle.xs_plain_desk.specs.Stored.{tile_at}
use Rattle.xs_plain_desk.proofs.store.how_many_there.Given as goal

abbrev pub invariant-loop-tile : goal.invariant-loop-tile
invariant-loop-tile l =
    (l.held ≤ l.tile-index) × (l.held ≡ how_many l.tile-index (λ k. is_some (tile_at l.tiles k)))
