-- Where a library tells nothing, a film of its pictures tells none.
use Rattle.std.proofs.Common.{◌∙◌, ap, sym}
use Rattle.xs_levels.specs.Films.{film_of}
use Rattle.xs_stock_timing.proofs.stocked.load.Goals as goal

pub load-requires-clause-film : goal.load-requires-clause-film
load-requires-clause-film g c =
    c.requires.pictures ∙ sym (ap (λ files. film_of files (g.F.FileTable.told c.args.table.now)) c.requires.files)
