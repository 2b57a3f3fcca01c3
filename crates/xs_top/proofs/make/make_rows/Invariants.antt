use Rattle.xs_levels.specs.Films.{film_of}
use Rattle.xs_levels.specs.Table.{table_of}
use Rattle.xs_top.proofs.make.make_rows.Given as goal

abbrev pub ghosts-render_rows : goal.ghosts-render_rows
ghosts-render_rows g a = record { pictures = film_of (g.O.Outside.view a.outside.now).seen.files (table_of a.good.now) }
