use Rattle.xs_levels.proofs.stock.written.Goals as goal

pub returns-in-Ok : goal.returns-in-Ok
returns-in-Ok c = rw (← c.colours.view_is) (rw c.items.ensures at c.in-Ok.ensures.styles)
