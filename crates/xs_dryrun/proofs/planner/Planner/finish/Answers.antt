use Rattle.std.proofs.Common.{◌≡◌, List, sym, ap, ◌∙◌, subst}
use Rattle.xs_rect.specs.Area.{Area}
use Rattle.xs_meaning.specs.Expressions.{Expr}
use Rattle.xs_plan.specs.Draft.{Draft}
use Rattle.xs_demand.specs.Shown.{ShowsRoots}
use Rattle.xs_dryrun.specs.Planned.{Planned}
use Rattle.xs_dryrun.specs.Planning.{roots_in}
use Rattle.xs_dryrun.proofs.Planners.{whole_once_full, full_count, tiles_seen, roots_seen}
use Rattle.xs_dryrun.proofs.Wholes.{ok_map}
use Rattle.xs_dryrun.proofs.planner.Planner.finish.Goals as goal

pub finish-requires : goal.finish-requires
finish-requires c =
    let p = c.self.inside in
    let u = p.way in
    let whole = whole_once_full p.tiles.items p.rows p.drawings p.lost u c.args.self c.self.view_is c.self.invariant c.requires in
    let is = c.self.invariant.underway whole in
    record {
      planned = (
        roots_in u,
        u.build.entered,
        u.rows,
        subst (λ (d : Draft). Planned p.drawings (roots_in u) u.build.entered u.rows d) (sym c.into_builder.ensures) is.planned,
        full_count p.tiles.items p.rows p.drawings p.lost u c.args.self c.self.view_is whole is c.requires
            ∙ ap (λ (d : Draft). d.rows) (sym c.into_builder.ensures),
      );
    }

pub returns-clause-shows : goal.returns-clause-shows
returns-clause-shows c =
    let p = c.self.inside in
    let u = p.way in
    let whole = whole_once_full p.tiles.items p.rows p.drawings p.lost u c.args.self c.self.view_is c.self.invariant c.requires in
    let is = c.self.invariant.underway whole in
    let planned = subst (λ (d : Draft). Planned p.drawings (roots_in u) u.build.entered u.rows d) (sym c.into_builder.ensures) is.planned in
    let tiles : c.into_builder.result.plan.tiles ≡ c.args.self.tiles =
    ap (λ (d : Draft). d.plan.tiles) c.into_builder.ensures
    ∙ tiles_seen p.tiles.items p.rows p.drawings p.lost u c.args.self c.self.view_is is in
    ok_map c.finish.result _ _
    (λ plan all.
    subst (λ (t : List Area). ShowsRoots t c.args.self.roots plan) tiles
    (subst (λ (l : List Expr). ShowsRoots c.into_builder.result.plan.tiles l plan)
    (roots_seen p.tiles.items p.rows p.drawings p.lost u c.args.self c.self.view_is whole) (all (roots_in u) u.build.entered u.rows planned)))
    c.finish.ensures.shows
