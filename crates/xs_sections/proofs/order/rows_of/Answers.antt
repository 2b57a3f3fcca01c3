use Rattle.std.proofs.Common.{◌≡◌, ◌-◌, ◌*◌, min, ℕ, ap, ◌∙◌, arith}
use Rattle.xs_base.specs.declared.limits.TheConstants.{SECTION_ROWS}
use Rattle.xs_plan.specs.Record.{rows_in}
use Rattle.xs_sections.proofs.OrderLemmas.{ordered, ordered_more, is_order}
use Rattle.xs_sections.proofs.order.rows_of.Goals as goal

pub loop-i-preserved : goal.loop-i-preserved
loop-i-preserved c =
    let more = ordered_more c.args.order (c.args.s * SECTION_ROWS) c.min-count.result c.loop-i.i in
    let row = c.row.ensures in
    let before = c.loop-i.invariant in
    let pushed = c.in_ok-push.ensures.items in
    cc

pub returns : goal.returns
returns c =
    let p = c.args.p.now in
    let first = c.args.s * SECTION_ROWS in
    let whole : c.loop-i.i ≡ c.min-count.result = omega arith in
    let count : c.min-count.result ≡ min SECTION_ROWS (rows_in c.args.p.now - c.args.s * SECTION_ROWS) = omega arith in
    is_order p c.args.s c.args.order c.loop-i.rows.items c.requires
    (c.loop-i.invariant ∙ ap (λ (n : ℕ). ordered c.args.order first c.min-count.result n) (whole ∙ count)
    ∙ ap (λ (m : ℕ). ordered c.args.order first m (min SECTION_ROWS (rows_in p - first))) count)
