use Rattle.xs_demand.proofs.GrownTiles.{tile_areas_apart}
use Rattle.xs_demand.proofs.blocks.frame_tiles_grow_apart.Goals as goal

pub returns : goal.returns
returns c = tile_areas_apart
