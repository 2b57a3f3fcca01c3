use Rattle.xs_levels.proofs.Drawn.{are_bytes_from}
use Rattle.xs_levels.proofs.stock.are_bytes.Goals as goal

pub returns : goal.returns
returns c = are_bytes_from _ c.type_inv.bytes
