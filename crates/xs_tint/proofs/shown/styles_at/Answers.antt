use Rattle.std.proofs.Common.{arith}
use Rattle.xs_tint.proofs.KeysInForce.{AreTaken-more}
use Rattle.xs_tint.proofs.shown.styles_at.Goals as goal

pub loop-key-preserved : goal.loop-key-preserved
loop-key-preserved c =
    AreTaken-more _ _ _ _ _ _ _ _ _ (omega arith) c.key-item.is c.take_key.ensures.row c.loop-key.invariant c.take_key.ensures.styles c.take_key.ensures.rows
