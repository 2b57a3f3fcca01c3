use Rattle.std.proofs.Common.{◌≡◌, ◌++◌, sym, ◌∙◌, arith}
use Rattle.xs_dryrun.specs.Adding.{roots_under}
use Rattle.xs_dryrun.proofs.MoreRows.{none_added, may_follow, row_added, row_refused, all_added, may_add_more, on_err}
use Rattle.xs_dryrun.proofs.next.add_rows.Goals as goal

pub loop-i-init : goal.loop-i-init
loop-i-init c = none_added c.args.s.now c.args.names.now c.args.from c.args.place c.args.count c.args.way.now

pub add_next_row-added-requires-clause-next : goal.add_next_row-added-requires-clause-next
add_next_row-added-requires-clause-next c =
    let r = c.requires.next in (
      r.0,
      r.1 ++ roots_under c.args.s.now c.args.names.now c.args.from c.loop-i.i,
      may_follow c.args.s.now c.args.names.now c.args.from c.args.place c.args.count c.args.way.now c.loop-i.i c.loop-i.way (omega arith)
          c.loop-i.invariant r.0 r.1 r.2,
    )

pub add_next_row-added-requires-clause-tiles : goal.add_next_row-added-requires-clause-tiles
add_next_row-added-requires-clause-tiles c = c.loop-i.invariant.tiles ∙ c.requires.tiles

pub add_next_row-added-requires-clause-rows : goal.add_next_row-added-requires-clause-rows
add_next_row-added-requires-clause-rows c = c.loop-i.invariant.many ∙ c.requires.rows

pub returns-then-is_err-clause-tries : goal.returns-then-is_err-clause-tries
returns-then-is_err-clause-tries c =
    row_refused c.args.s.now c.args.names.now c.args.from c.args.place c.args.count c.args.way.now c.loop-i.i c.loop-i.way
    c.add_next_row-added.new.way c.add_next_row-added.result (sym c.is_err.ensures.value ∙ c.if-is_err.true) (omega arith)
    c.loop-i.invariant c.add_next_row-added.ensures.tries

pub loop-i-preserved : goal.loop-i-preserved
loop-i-preserved c =
    let ensures = c.add_next_row-added.ensures in
    row_added c.args.s.now c.args.names.now c.args.from c.args.place c.args.count c.args.way.now c.loop-i.i c.loop-i.way
    c.add_next_row-added.new.way c.add_next_row-added.result (sym c.is_err.ensures.value ∙ c.if-is_err.false) (omega arith)
    c.loop-i.invariant ensures.rows ensures.tiles ensures.room ensures.held ensures.tries

pub returns-clause-tries : goal.returns-clause-tries
returns-clause-tries c =
    all_added c.args.s.now c.args.names.now c.args.from c.args.place c.args.count c.args.way.now c.loop-i.i c.loop-i.way
    (let same : c.loop-i.i ≡ c.args.count = omega (arith, c.loop-i-test.false, c.loop-i.auto.i-end) in same) c.loop-i.invariant

pub returns-then-is_err-clause-more : goal.returns-then-is_err-clause-more
returns-then-is_err-clause-more c = on_err c.add_next_row-added.result _ (sym c.is_err.ensures.value ∙ c.if-is_err.true)

pub returns-clause-more : goal.returns-clause-more
returns-clause-more c =
    may_add_more c.args.s.now c.args.names.now c.args.from c.args.place c.args.count c.args.way.now c.loop-i.i c.loop-i.way
    (let same : c.loop-i.i ≡ c.args.count = omega (arith, c.loop-i-test.false, c.loop-i.auto.i-end) in same) c.loop-i.invariant
