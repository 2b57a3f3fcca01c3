use Rattle.std.proofs.Common.{◌≡◌, ◌<◌, length, get_or, sym, arith}
use Rattle.std.proofs.lemmas.Option.{get_or_from_slice_get}
use Rattle.xs_levels.proofs.Shown.{one_more_shown, all_shown}
use Rattle.xs_levels.proofs.stock.palettes.Goals as goal

pub loop-i-preserved : goal.loop-i-preserved
loop-i-preserved g c =
    let t = g.F.FileTable.told c.args.table.now in
    let i = c.loop-i.i in
    let before = c.loop-i.invariant in
    let within : i < length t.palettes = omega (arith, c.loop-i-test.true, before.all) in
    let item = sym (get_or_from_slice_get t.palettes i c.palette.result.now c.palette.result.now c.palette.ensures) in
    record {
      count = omega (arith, c.push_reserved.ensures.len, before.count);
      room = omega (arith, c.push_reserved.ensures.capacity, before.room);
      all = before.all;
      shown = rw c.push_reserved.ensures.items
          (one_more_shown t _ _ i c.palette.result.now within item before.count c.in_ok-written.ensures before.shown);
    }

pub returns-clause-written : goal.returns-clause-written
returns-clause-written g c =
    let t = g.F.FileTable.told c.args.table.now in
    let over : length t.palettes ≡ c.loop-i.i = omega (arith, c.loop-i-test.false, c.loop-i.auto.i-end, c.loop-i.invariant.all) in
    rw c.of.ensures (all_shown t _ c.loop-i.i c.loop-i.invariant.count over c.loop-i.invariant.shown)
