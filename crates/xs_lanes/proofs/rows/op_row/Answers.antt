use Rattle.xs_pixel.specs.Operations.{apply_of}
use Rattle.xs_lanes.proofs.Lengths.{Each1-results}
use Rattle.xs_lanes.proofs.rows.op_row.Goals as goal

pub returns-clause-valid : goal.returns-clause-valid
returns-clause-valid c =
    rw c.by_kernel.ensures (Each1-results (apply_of c.args.op) (c.operations_keep_pixels.ensures c.args.op) _ _ c.requires.first c.requires.second)
