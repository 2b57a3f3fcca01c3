use Rattle.xs_entered.proofs.SamePlace.{is_put}
use Rattle.xs_entered.proofs.place.put_place.Goals as goal

pub returns-clause-put : goal.returns-clause-put
returns-clause-put c =
    is_put c.args.places.now.keys c.insert_full.new.self.keys c.args.place c.in-Ok.n c.in-Ok.ensures.keys c.in-Ok.ensures.stored
