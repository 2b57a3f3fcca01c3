use Rattle.xs_rawfile.proofs.Holding.{remove_held}
use Rattle.xs_rawfile.proofs.drawings.Drawings.remove.Goals as goal

pub invariant_of-self : goal.invariant_of-self
invariant_of-self g c = remove_held g.K.Film.pictures _ c.args.d c.self.invariant
