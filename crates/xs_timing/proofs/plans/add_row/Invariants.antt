use Rattle.std.proofs.Common.{◌≡◌, ◌<◌, ◌+◌, ◌*◌, length}
use Rattle.xs_timing.specs.declared.plans.TheConstants.{PAIRS}
use Rattle.xs_timing.specs.Made.{IsLast, IsMade, tile_area}
use Rattle.xs_timing.proofs.plans.add_row.Given as goal

abbrev pub invariant-loop-tile : goal.invariant-loop-tile
invariant-loop-tile l =
    record {
      made : IsMade l.b;
      last : 0 < l._tile → IsLast l.b l.k tile_area;
      rooted : l.b.rooted ≡ length l.b.plan.entries;
      roots : length l.b.plan.roots ≡ l._tile;
      count : length l.b.plan.entries ≡ (PAIRS + 2) * l._tile;
    }
