use Rattle.std.proofs.Common.{◌≡◌, ℕ, [], length, sym, subst, arith}
use Rattle.xs_plan.specs.Draft.{Draft}
use Rattle.xs_dryrun.specs.Numbers.{AreNumbers}
use Rattle.xs_dryrun.specs.Planned.{Planned}
use Rattle.xs_dryrun.proofs.Wholes.{planned_nothing}
use Rattle.xs_dryrun.proofs.whole.start.Goals as goal

pub returns-clause-planned : goal.returns-clause-planned
returns-clause-planned c = λ drawings.
    let many : c.len-count.result ≡ length c.args.tiles.items = omega (arith, c.len-count.ensures) in
    let numbers = subst (λ (n : ℕ). AreNumbers n [] c.new-2.result.firsts.items c.new-2.result.strides.items) many c.new-2.ensures.numbers in
    subst (λ (d : Draft). Planned drawings [] [] c.new-2.result d) (sym c.in_ok-builder.ensures)
    (planned_nothing c.args.tiles.items c.args.rows drawings c.new-2.result c.requires.frame c.requires.some_tiles numbers)
