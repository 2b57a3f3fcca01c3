use Rattle.std.proofs.Common.{length, ap, subst, arith}
use Rattle.xs_demand.specs.Blocks.{IsClosed}
use Rattle.xs_entered.proofs.ShownPlaces.{length-shown}
use Rattle.xs_entered.proofs.Reading.{held_closed}
use Rattle.xs_entered.proofs.entered.Entered.len.Goals as goal

pub returns-clause-count : goal.returns-clause-count
returns-clause-count c =
    omega (arith, c.len.ensures.len, ap length c.self.view_is, length-shown c.self.inside.tints c.self.inside.places.keys)

pub returns-clause-closed : goal.returns-clause-closed
returns-clause-closed c =
    subst IsClosed c.self.view_is
    (held_closed c.self.inside.tints c.self.inside.places.keys c.self.inside.inputs c.self.invariant)

pub returns-clause-few : goal.returns-clause-few
returns-clause-few c =
    omega (arith, c.self.invariant.few, ap length c.self.view_is, length-shown c.self.inside.tints c.self.inside.places.keys)
