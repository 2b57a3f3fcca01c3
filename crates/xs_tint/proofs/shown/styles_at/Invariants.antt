use Rattle.std.proofs.Common.{take}
use Rattle.xs_tint.specs.KeysTaken.{AreTaken}
use Rattle.xs_tint.proofs.shown.styles_at.Given as goal

abbrev pub invariant-loop-key : goal.invariant-loop-key
invariant-loop-key l = AreTaken l.fn.c.styles (take l.key-index l.key-items) l.row l.styles.items l.rows.items
