use Rattle.xs_dryrun.specs.declared.next.Underway.{Underway}
use Rattle.xs_dryrun.proofs.MoreRows.{may_begin}
use Rattle.xs_dryrun.proofs.next.begin.Goals as goal

pub returns-clause-may : goal.returns-clause-may
returns-clause-may c =
    let u : Underway =
    record { builder = c.in_ok-builder.builder; build = c.in_ok-new.field-0; rows = c.in_ok-builder.numbers; roots = c.new-2.result } in
    may_begin c.args.tiles.items c.args.rows u c.in_ok-builder.ensures.draft c.in_ok-new.ensures c.new-2.ensures.items c.in_ok-builder.ensures.planned
