use Rattle.xs_dryrun.proofs.Wholes.{has_roots, ok_map, shows_roots}
use Rattle.xs_dryrun.proofs.NeededBelow.{needed_below}
use Rattle.xs_dryrun.proofs.whole.finish.Goals as goal

pub finish-requires-clause-has_roots : goal.finish-requires-clause-has_roots
finish-requires-clause-has_roots c =
    let p = c.requires.planned in has_roots c.args.drawings p.0 p.1 p.2 c.args.builder p.3 p.4

pub finish-requires-clause-drawings : goal.finish-requires-clause-drawings
finish-requires-clause-drawings c =
    let p = c.requires.planned in
    needed_below (λ tiles roots y. (c.visits_add_what_they_reach.ensures.rows tiles roots y).0)
    c.shown_jobs_ask_for_their_inputs.ensures.drawing c.args.drawings p.0 p.1 p.2 c.args.builder p.3

pub returns-clause-shows : goal.returns-clause-shows
returns-clause-shows c =
    ok_map c.finish.result _ _
    (λ p is roots l rows planned. shows_roots c.args.drawings roots l rows c.args.builder planned p c.args.drawings is)
    c.finish.ensures
