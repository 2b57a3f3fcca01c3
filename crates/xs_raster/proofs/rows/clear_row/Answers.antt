use Rattle.std.proofs.Common.{◌*◌, arith}
use Rattle.std.proofs.lemmas.List.{take-replicate}
use Rattle.xs_raster.proofs.rows.clear_row.Goals as goal

pub returns : goal.returns
returns c = take-replicate (4 * c.args.n) 768 0 (omega arith)
