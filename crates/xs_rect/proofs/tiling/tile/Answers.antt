use Rattle.std.proofs.Common.{◌*◌, ◌/◌, ◌%◌, ◌<◌, w32, arith}
use Rattle.std.proofs.lemmas.Int.{to_z_pos}
use Rattle.std.proofs.lemmas.Nat.{div_below}
use Rattle.xs_rect.specs.Tiles.{tile_area, tiles_along}
use Rattle.xs_rect.proofs.tiling.tile.Goals as goal

pub returns : goal.returns
unfolding tile_area
returns c =
    let row : c.args.k / c.div_ceil-across.result < tiles_along c.args.h =
    rw c.div_ceil-across.ensures (div_below c.args.k (tiles_along c.args.w) (tiles_along c.args.h) (omega arith) (omega arith))
    in
    let x = to_z_pos w32 (c.args.k % c.div_ceil-across.result * 64) (omega arith) in
    let y = to_z_pos w32 (c.args.k / c.div_ceil-across.result * 64) (omega arith) in
    rw (x, y, c.min.ensures, c.min-2.ensures, c.div_ceil-across.ensures)
