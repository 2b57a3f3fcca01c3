use Rattle.std.proofs.Common.{length, ap, ◌∙◌}
use Rattle.xs_demand.specs.Aliases.{aliases_of}
use Rattle.xs_dryrun.specs.Planning.{Planning}
use Rattle.xs_dryrun.proofs.Planners.{none_where_lost, aliases_counted}
use Rattle.xs_dryrun.proofs.planner.Planner.aliases.Goals as goal

pub returns-then-self : goal.returns-then-self
returns-then-self c =
    let p = c.self.inside in
    none_where_lost p.tiles.items p.rows p.drawings p.lost p.way c.if-self.true
    ∙ ap (λ (p : Planning). length (aliases_of p.tiles p.roots)) c.self.view_is

pub returns-else-self : goal.returns-else-self
returns-else-self c =
    let p = c.self.inside in
    c.aliases.ensures ∙ aliases_counted p.tiles.items p.rows p.drawings p.lost p.way c.if-self.false c.self.invariant
    ∙ ap (λ (p : Planning). length (aliases_of p.tiles p.roots)) c.self.view_is
