use Rattle.xs_palette.specs.Styles.{written}
use Rattle.xs_palette.proofs.Filling.{Shows}
use Rattle.xs_palette.proofs.palette.Palette.from_styles.Given as goal

abbrev pub invariant-loop-id : goal.invariant-loop-id
invariant-loop-id l = Shows (written l.styles) l.id l.table.items
