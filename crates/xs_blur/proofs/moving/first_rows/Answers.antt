use Rattle.std.proofs.Common.{sym, ◌∙◌}
use Rattle.xs_blur.proofs.TotalLemmas.{column-none}
use Rattle.xs_blur.proofs.moving.first_rows.Goals as goal

pub loop-row-init : goal.loop-row-init
loop-row-init c = λ i here. c.requires.none i here ∙ sym (column-none _ _ 0 i)
