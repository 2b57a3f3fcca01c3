use Rattle.xs_demand.proofs.RootFits.{fit-root}
use Rattle.xs_demand.proofs.fit.the_roots_of_rows_are_fit.Goals as goal

pub returns : goal.returns
returns c = fit-root c.offsets_of_drawings_are_bounded.ensures.roots
