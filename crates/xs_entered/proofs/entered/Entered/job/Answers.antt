use Rattle.std.proofs.Common.{get_or, sym, subst}
use Rattle.xs_demand.specs.Shown.{ShowsJob}
use Rattle.xs_entered.specs.Entered.{spread_at, tints_entered}
use Rattle.xs_entered.proofs.Reading.{within_places, place_read, shows_job}
use Rattle.xs_entered.proofs.entered.Entered.job.Goals as goal

pub bounds-as_slice-n : goal.bounds-as_slice-n
bounds-as_slice-n c =
    within_places c.self.inside.tints c.self.inside.places.keys c.as_slice.result.now c.args.n c.args.self.now
    c.self.view_is c.as_slice.ensures.keys c.requires

pub returns : goal.returns
returns c =
    let places = c.self.inside.places.keys in
    let n = c.args.n in
    let p = get_or c.as_slice.result.now n c.index-as_slice-n.result in
    let here = within_places c.self.inside.tints places c.as_slice.result.now n c.args.self.now c.self.view_is c.as_slice.ensures.keys c.requires in
    subst (λ job. ShowsJob (tints_entered c.args.self.now) (spread_at c.args.self.now n).expr job) (sym c.job_of.ensures)
    (shows_job c.self.inside.tints places c.self.inside.inputs n p c.args.self.now c.self.view_is c.self.invariant
    (place_read places c.as_slice.result.now n c.index-as_slice-n.result c.as_slice.ensures.keys here))
