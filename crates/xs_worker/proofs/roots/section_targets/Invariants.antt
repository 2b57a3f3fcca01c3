use Rattle.std.proofs.Common.{◌≡◌, ◌*◌, ◌-◌, min}
use Rattle.std.specs.List.{range_with_len, flat_map}
use Rattle.xs_base.specs.declared.limits.TheConstants.{SECTION_ROWS}
use Rattle.xs_plan.specs.Record.{rows_in}
use Rattle.xs_worker.specs.Sections.{column}
use Rattle.xs_worker.proofs.roots.section_targets.Given as goal

abbrev pub invariant-loop-tile : goal.invariant-loop-tile
invariant-loop-tile l =
    l.targets.items ≡ flat_map (λ tile. column l.fn.p tile (l.fn.s * SECTION_ROWS) (min SECTION_ROWS (rows_in l.fn.p - l.fn.s * SECTION_ROWS)))
    (range_with_len 0 l.tile)
