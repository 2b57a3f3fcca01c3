use Rattle.std.proofs.Common.{w32}
use Rattle.std.proofs.lemmas.Int.{to_z-of_z}
use Rattle.xs_rawfile.proofs.Holding.{names_some, held_there}
use Rattle.xs_rawfile.proofs.drawings.Drawings.pixel.Goals as goal

pub pixel_under-requires : goal.pixel_under-requires
pixel_under-requires g c =
    let there = held_there c.self.inside.slots.items c.args.d _ _ (rw (← c.self.view_is) at c.requires) c.index.ensures c.in-Some.is in
    rw c.items.ensures (names_some _ _ _ (c.self.invariant.named c.args.d c.in-Some.drawing c.in-Some.number there))

pub returns-in-Some : goal.returns-in-Some
returns-in-Some g c =
    let there = held_there c.self.inside.slots.items c.args.d _ _ (rw (← c.self.view_is) at c.requires) c.index.ensures c.in-Some.is in
    let x = to_z-of_z w32 c.args.x c.ranges.x in
    let y = to_z-of_z w32 c.args.y c.ranges.y in
    rw (← c.self.view_is, there) (rw (c.items.ensures, x, y) at c.pixel_under.ensures)

pub returns-in-None : goal.returns-in-None
returns-in-None g c =
    let there = held_there c.self.inside.slots.items c.args.d _ _ (rw (← c.self.view_is) at c.requires) c.index.ensures c.in-None.is in
    rw (← c.self.view_is, there) tt
