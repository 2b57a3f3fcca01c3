use Rattle.std.proofs.Common.{FitsSigned, w32, rules, List, length, ap, subst, arith}
use Rattle.std.proofs.lemmas.Int.{to_z-of_z}
use Rattle.xs_pixel.specs.Points.{point}
use Rattle.xs_meaning.specs.Expressions.{Tinted}
use Rattle.xs_tint.specs.Tints.{tint_of}
use Rattle.xs_demand.specs.Blocks.{spread}
use Rattle.xs_entered.specs.Places.{IsPut}
use Rattle.xs_alias.specs.declared.key.Key.TheVariants as key
use Rattle.xs_entered.specs.declared.place.Place.{Place}
use Rattle.xs_entered.proofs.ShownPlaces.{length-shown, inputs_few}
use Rattle.xs_entered.proofs.Entering.{Gives, place, tinted}
use Rattle.xs_entered.proofs.entered.Entered.tinted.Goals as goal

pub put_place-requires-clause-room : goal.put_place-requires-clause-room
put_place-requires-clause-room c =
    omega (
      arith,
      c.requires.room,
      ap length c.reserve.ensures.keys,
      ap length c.self.view_is,
      length-shown c.self.inside.tints c.self.inside.places.keys,
    )

pub put_place-requires-clause-few : goal.put_place-requires-clause-few
put_place-requires-clause-few c =
    omega (arith, c.self.invariant.counted, ap length c.reserve.ensures.keys, inputs_few c.self.inside.places.keys)

given :
    (c : goal.In-Ok)
    → Gives c.args.self.now c.intern.new.self c.put_place.new.places.keys c.put_place.new.inputs
    (spread (Tinted c.args.drawing (point c.args.dx c.args.dy) (tint_of c.args.palette)) c.args.growth) c.in-Ok.n
given c =
    let old = c.self.inside.places.keys in
    let fx : FitsSigned w32 c.args.dx = search rules in
    let fy : FitsSigned w32 c.args.dy = search rules in
    let x = to_z-of_z w32 c.args.dx fx in
    let y = to_z-of_z w32 c.args.dy fy in
    let P : List Place → Type 0 =
    λ places. IsPut places c.put_place.new.places.keys
    (place (key.Tinted c.args.drawing c.args.dx c.args.dy c.in_ok-tint.tint) c.args.growth) c.in-Ok.n in
    tinted c.self.inside.tints c.intern.new.self old c.put_place.new.places.keys c.self.inside.inputs
    c.put_place.new.inputs c.args.drawing c.args.dx c.args.dy c.in_ok-tint.tint c.args.growth c.in-Ok.n
    (tint_of c.args.palette) c.args.self.now c.self.view_is c.self.invariant c.in_ok-tint.ensures.number
    c.in_ok-tint.ensures.known c.in_ok-tint.ensures.next c.intern.ensures.differ
    (omega (arith, c.requires.room, ap length c.self.view_is, length-shown c.self.inside.tints old))
    (subst P c.reserve.ensures.keys (rw (x, y) at c.in-Ok.ensures.put)) c.put_place.ensures.counted

pub invariant_of-self-2 : goal.invariant_of-self-2
invariant_of-self-2 c = (given c).held

pub returns-clause-entered : goal.returns-clause-entered
returns-clause-entered c = (given c).puts

pub returns-clause-within : goal.returns-clause-within
returns-clause-within c = (given c).within

pub returns-clause-at_least : goal.returns-clause-at_least
returns-clause-at_least c = (given c).at_least
