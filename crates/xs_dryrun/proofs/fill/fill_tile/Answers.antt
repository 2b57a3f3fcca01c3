use Rattle.std.proofs.Common.{◌≡◌, ℕ, Some, slice_get, sym, subst, arith}
use Rattle.xs_plan.specs.Record.{entry_at}
use Rattle.xs_plan.specs.Draft.{ReachesNew, next_tile}
use Rattle.xs_dryrun.proofs.TileRoots.{tells, root_there, root_on_tile, root_reaches}
use Rattle.xs_dryrun.proofs.fill.fill_tile.Goals as goal

pub number-requires-clause-fits : goal.number-requires-clause-fits
number-requires-clause-fits c =
    let at = c.requires.at in
    let tells = tells at.0 at.1 at.2 c.args.builder.now c.args.entered.now c.args.rows.now c.args.before c.args.tile c.args.root
    c.args.area.now c.add_new.new.builder at.3 c.in_ok-add_new.ensures in
    omega (arith, tells.fits c.args.root c.requires.root)

pub root-requires-clause-there : goal.root-requires-clause-there
root-requires-clause-there c =
    let at = c.requires.at in
    omega (
      arith,
      c.number.ensures.is,
      root_there at.0 at.1 at.2 c.args.builder.now c.args.entered.now c.args.rows.now c.args.before c.args.tile c.args.root
          c.args.area.now c.add_new.new.builder at.3 c.in_ok-add_new.ensures,
    )

pub root-requires-clause-on_its_tile : goal.root-requires-clause-on_its_tile
root-requires-clause-on_its_tile c =
    let at = c.requires.at in
    let d = c.add_new.new.builder in
    subst (λ (k : ℕ). slice_get d.plan.tiles (next_tile d) ≡ Some (entry_at d.plan.entries k).rect) (sym c.number.ensures.is)
    (root_on_tile at.0 at.1 at.2 c.args.builder.now c.args.entered.now c.args.rows.now c.args.before c.args.tile c.args.root
    c.args.area.now d at.3 c.in_ok-add_new.ensures)

pub root-requires-clause-reaches : goal.root-requires-clause-reaches
root-requires-clause-reaches c =
    let at = c.requires.at in
    let d = c.add_new.new.builder in
    subst (ReachesNew d) (sym c.number.ensures.is)
    (root_reaches at.0 at.1 at.2 c.args.builder.now c.args.entered.now c.args.rows.now c.args.before c.args.tile c.args.root
    c.args.area.now d at.3 c.in_ok-add_new.ensures)
