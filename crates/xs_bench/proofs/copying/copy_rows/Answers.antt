use Rattle.std.proofs.Common.{◌+◌, ◌*◌, refl, rules, arith}
use Rattle.std.proofs.lemmas.Simd.{length-chunk}
use Rattle.xs_bench.proofs.Places.{copied_more, row_fits, rows_below}
use Rattle.xs_bench.proofs.copying.copy_rows.Goals as goal

pub overflow_add-at : goal.overflow_add-at
overflow_add-at c =
    let below = rows_below (c.args.up.at + c.args.up.len) c.args.to_w _ (omega arith) c.requires.up in
    search (rules, below)

pub overflow_add-start : goal.overflow_add-start
overflow_add-start c =
    let below = rows_below (c.args.up.from + c.args.up.len) c.args.from_w _ (omega arith) c.requires.up_from in
    search (rules, below)

pub loop-row-preserved : goal.loop-row-preserved
loop-row-preserved c =
    let row = c.loop-row.row in
    let room = row_fits c.args.to_w (c.args.up.at + row) c.args.across.at c.args.across.len (c.args.up.at + c.args.up.len) _ (omega arith)
    c.requires.across c.requires.up in
    let there = row_fits c.args.from_w (c.args.up.from + row) c.args.across.from c.args.across.len (c.args.up.from + c.args.up.len) _
    (omega arith) c.requires.across_from c.requires.up_from in
    copied_more c.args.from.now c.args.from_w c.args.to_w c.args.across c.args.up row c.args.to.now c.loop-row.to c.copy_part.new.to _
    c.loop-row.invariant c.requires.across (omega (arith, room, c.loop-row.auto.to)) refl
    (length-chunk ((c.args.up.from + row) * c.args.from_w + c.args.across.from) c.args.across.len c.args.from.now there) c.copy_part.ensures
