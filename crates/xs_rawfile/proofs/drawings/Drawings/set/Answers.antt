use Rattle.xs_rawfile.proofs.Holding.{set_held}
use Rattle.xs_rawfile.proofs.drawings.Drawings.set.Goals as goal

pub invariant_of-self : goal.invariant_of-self
invariant_of-self g c =
    set_held g.K.Film.pictures _ c.args.d c.args.g c.args.palette c.self.invariant c.bytes.ensures.raw
    (rw (← c.self.view_is) at c.requires.palette) (rw (← c.self.view_is) at c.requires.film)
