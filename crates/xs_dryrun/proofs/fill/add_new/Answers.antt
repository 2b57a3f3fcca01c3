use Rattle.std.proofs.Common.{◌≡◌, ◌<◌, ◌≤◌, ◌++◌, ◌∷◌, [], ℕ, length, subst, arith}
use Rattle.xs_dryrun.specs.Tile.{FilledTo}
use Rattle.xs_dryrun.proofs.TileLemmas.{is_next, filled_more}
use Rattle.xs_dryrun.proofs.fill.add_new.Goals as goal

pub add_next-requires-clause-next : goal.add_next-requires-clause-next
add_next-requires-clause-next c =
    let at = c.requires.at in
    let within : c.loop-j.j < length c.args.entered.now = omega (arith, c.loop-j-test.true, c.len-j-end.ensures.count) in (
      at.0,
      at.1 ++ at.2 ∷ [],
      is_next c.args.builder.now c.args.entered.now c.args.rows.now c.args.before c.args.tile c.args.area.now c.loop-j.builder c.loop-j.j
          c.loop-j.invariant.filled c.loop-j.invariant.behind within at.0 at.1 at.2 at.3,
    )

pub loop-j-preserved : goal.loop-j-preserved
loop-j-preserved c =
    let within : c.loop-j.j < length c.args.entered.now = omega (arith, c.loop-j-test.true, c.len-j-end.ensures.count) in
    record {
      behind = omega (arith, c.loop-j.invariant.behind);
      filled =
          filled_more c.args.builder.now c.args.entered.now c.args.rows.now c.args.before c.args.tile c.args.area.now c.loop-j.builder
          c.add_next.new.builder c.loop-j.j c.loop-j.invariant.filled c.loop-j.invariant.behind within c.in_ok-add_next.ensures;
    }

pub returns : goal.returns
returns c =
    let more : c.args.before ≤ c.len-j-end.result = omega (arith, c.requires.more, c.len-j-end.ensures.count) in
    let end : c.loop-j.j ≡ length c.args.entered.now =
    omega (arith, c.loop-j.auto.j-end more, c.loop-j-test.false, c.len-j-end.ensures.count) in
    subst (λ (n : ℕ). FilledTo c.args.builder.now c.args.entered.now c.args.rows.now c.args.before n c.args.tile c.args.area.now c.loop-j.builder)
    end c.loop-j.invariant.filled
