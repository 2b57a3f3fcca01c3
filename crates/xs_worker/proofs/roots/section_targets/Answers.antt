use Rattle.std.proofs.Common.{◌≡◌, ◌*◌, ◌-◌, ◌++◌, min, List, ℕ, rules, sym, ap, ◌∙◌}
use Rattle.std.specs.List.{range_with_len, flat_map}
use Rattle.xs_base.specs.declared.limits.TheConstants.{SECTION_ROWS}
use Rattle.xs_plan.specs.Record.{rows_in}
use Rattle.xs_worker.specs.Sections.{column}
use Rattle.xs_worker.proofs.Columns.{roots_more}
use Rattle.xs_worker.proofs.roots.section_targets.Goals as goal

pub loop-tile-preserved : goal.loop-tile-preserved
loop-tile-preserved c =
    let p = c.args.p.now in
    let first = c.args.s * SECTION_ROWS in
    let rows = min SECTION_ROWS (rows_in p - first) in
    let rows_is : c.min-rows.result ≡ rows = search rules in
    c.in_ok-push_column.ensures ∙ ap (λ (l : List ℕ). l ++ column p c.loop-tile.tile first c.min-rows.result) c.loop-tile.invariant
    ∙ ap (λ (r : ℕ). flat_map (λ tile. column p tile first rows) (range_with_len 0 c.loop-tile.tile) ++ column p c.loop-tile.tile first r) rows_is
    ∙ sym (roots_more p first rows c.loop-tile.tile)
