use Rattle.std.proofs.Common.{arith}
use Rattle.xs_rect.proofs.Cuts.{tile_areas_cut}
use Rattle.xs_rect.proofs.tiling.tiles.Goals as goal

pub returns-clause-cut : goal.returns-clause-cut
returns-clause-cut c = rw c.in_ok-tiles.ensures (tile_areas_cut _ _ (omega arith))
