use Rattle.std.proofs.Common.{◌≡◌, ◌≤◌, ap, length, arith, ◌∙◌}
use Rattle.xs_tint.specs.Filters.{dropped_by, filtering}
use Rattle.xs_tint.proofs.Marks.{filtering-by_flags, with_all_dropped}
use Rattle.xs_tint.proofs.dropped.Dropped.with.Goals as goal

pub returns : goal.returns
returns c =
    let keep = c.args.keep in
    let styles = c.args.styles.now in
    let was = c.as_slice-was.result.now in
    let flags = c.loop-id.flags.items in
    let same : was ≡ c.args.self.now = c.as_slice-was.ensures.value ∙ c.self.view_is in
    let long : length was ≤ 4096 = omega (arith, c.self.invariant, ap length c.as_slice-was.ensures.value) in
    let end : length was ≤ c.loop-id.id = omega arith in
    filtering-by_flags keep styles was flags c.requires long c.loop-id.invariant.0
    (with_all_dropped keep styles was flags c.loop-id.id end c.loop-id.invariant.1 c.loop-id.invariant.2)
    ∙ ap (λ flags. filtering keep styles (dropped_by flags)) same
