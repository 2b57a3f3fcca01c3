use Rattle.std.proofs.Common.{get_or}
use Rattle.xs_entered.proofs.Reading.{within_places, place_read, shows_growth}
use Rattle.xs_entered.proofs.entered.Entered.growth.Goals as goal

pub bounds-as_slice-n : goal.bounds-as_slice-n
bounds-as_slice-n c =
    within_places c.self.inside.tints c.self.inside.places.keys c.as_slice.result.now c.args.n c.args.self.now
    c.self.view_is c.as_slice.ensures.keys c.requires

pub bounds-as_slice-n-2 : goal.bounds-as_slice-n-2
bounds-as_slice-n-2 c =
    within_places c.self.inside.tints c.self.inside.places.keys c.as_slice.result.now c.args.n c.args.self.now
    c.self.view_is c.as_slice.ensures.keys c.requires

pub returns : goal.returns
returns c =
    let read = c.as_slice.result.now in
    let p = get_or read c.args.n c.index-as_slice-n.result in
    let here = within_places c.self.inside.tints c.self.inside.places.keys read c.args.n c.args.self.now c.self.view_is c.as_slice.ensures.keys c.requires in
    shows_growth c.self.inside.tints c.self.inside.places.keys c.self.inside.inputs c.args.n p c.args.self.now c.self.view_is
    c.self.invariant
    (place_read c.self.inside.places.keys read c.args.n c.index-as_slice-n.result c.as_slice.ensures.keys here)
