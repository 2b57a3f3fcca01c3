use Rattle.std.proofs.Common.{◌≡◌, ℕ, [], length, ap, arith}
use Rattle.xs_demand.specs.Blocks.{spread}
use Rattle.xs_entered.specs.Places.{made, shown, IsPut}
use Rattle.xs_entered.proofs.ShownPlaces.{length-shown, inputs_few}
use Rattle.xs_entered.proofs.Entering.{IfOk-map, in_either, Gives, place, unchanged, untinted}
use Rattle.xs_entered.proofs.entered.Entered.put.Goals as goal

pub put_place-requires-clause-room : goal.put_place-requires-clause-room
put_place-requires-clause-room c =
    omega (arith, c.requires.room, ap length c.self.view_is, length-shown c.self.inside.tints c.self.inside.places.keys)

pub put_place-requires-clause-few : goal.put_place-requires-clause-few
put_place-requires-clause-few c = omega (arith, c.self.invariant.counted, inputs_few c.self.inside.places.keys)

given :
    (c : goal.After-put_place) (n : ℕ)
    → IsPut c.self.inside.places.keys c.put_place.new.places.keys (place c.args.key c.args.growth) n
    → Gives c.args.self.now c.self.inside.tints c.put_place.new.places.keys c.put_place.new.inputs
    (spread (made [] c.args.self.now c.args.key) c.args.growth) n
given c n put =
    untinted c.self.inside.tints c.self.inside.places.keys c.put_place.new.places.keys c.self.inside.inputs
    c.put_place.new.inputs c.args.key c.args.growth n c.args.self.now c.self.view_is c.self.invariant c.requires.founded
    (omega (arith, c.requires.room, ap length c.self.view_is, length-shown c.self.inside.tints c.self.inside.places.keys))
    put c.put_place.ensures.counted

pub invariant_of-self : goal.invariant_of-self
invariant_of-self c =
    in_either c.put_place.result
    (IsPut c.self.inside.places.keys c.put_place.new.places.keys (place c.args.key c.args.growth))
    (c.put_place.new.places.keys ≡ c.self.inside.places.keys) (λ n put. (given c n put).held)
    (λ same.
    unchanged c.self.inside.tints c.self.inside.places.keys c.put_place.new.places.keys c.self.inside.inputs
    c.put_place.new.inputs c.self.invariant same c.put_place.ensures.counted)
    c.put_place.ensures.put c.put_place.ensures.err

pub returns-clause-entered : goal.returns-clause-entered
returns-clause-entered c =
    IfOk-map c.put_place.result
    (IsPut c.self.inside.places.keys c.put_place.new.places.keys (place c.args.key c.args.growth)) _
    (λ n put. (given c n put).puts) c.put_place.ensures.put

pub returns-clause-within : goal.returns-clause-within
returns-clause-within c =
    IfOk-map c.put_place.result
    (IsPut c.self.inside.places.keys c.put_place.new.places.keys (place c.args.key c.args.growth)) _
    (λ n put. (given c n put).within) c.put_place.ensures.put

pub returns-clause-at_least : goal.returns-clause-at_least
returns-clause-at_least c =
    in_either c.put_place.result
    (IsPut c.self.inside.places.keys c.put_place.new.places.keys (place c.args.key c.args.growth))
    (c.put_place.new.places.keys ≡ c.self.inside.places.keys) (λ n put. (given c n put).at_least)
    (λ same. omega (arith, ap length c.self.view_is, ap (λ places. length (shown c.self.inside.tints places)) same))
    c.put_place.ensures.put c.put_place.ensures.err
