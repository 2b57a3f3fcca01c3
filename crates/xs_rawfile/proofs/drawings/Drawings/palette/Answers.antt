use Rattle.xs_rawfile.proofs.Holding.{names_some, held_there}
use Rattle.xs_rawfile.proofs.drawings.Drawings.palette.Goals as goal

pub named-requires : goal.named-requires
named-requires g c =
    let slots = c.self.inside.slots.items in
    let held = held_there slots c.args.d _ _ (rw (← c.self.view_is) at c.requires) c.index.ensures c.in-Some.is in
    rw c.items.ensures (names_some _ _ _ (c.self.invariant.named c.args.d c.in-Some.field-0-0 c.in-Some.number held))
