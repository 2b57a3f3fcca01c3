use Rattle.std.proofs.Common.{◌-◌, ◌*◌, ◌≤◌, arith}
use Rattle.std.proofs.Math.Nat.{mul-le-mul_right}
use Rattle.xs_blur.proofs.Lines.{sums_all, sums_without, sums_had, sums_small, means_more}
use Rattle.xs_blur.proofs.line.put_line.Goals as goal

pub with-all-requires-clause-room : goal.with-all-requires-clause-room
with-all-requires-clause-room c =
    let side = c.args.side in
    let less : (side - 1) * (255 * side) ≤ side * (255 * side) = mul-le-mul_right (255 * side) (omega arith) in
    let squares : side * side ≤ 33 * side = mul-le-mul_right side c.requires.side.1 in
    sums_small c.args.columns.now c.loop-x.x (side - 1) (255 * side) 1000000 c.loop-x.sums c.loop-x.invariant.sums c.requires.sums
    (omega (arith, less, squares))

pub put_means-requires-clause-sums : goal.put_means-requires-clause-sums
put_means-requires-clause-sums c =
    let side = c.args.side in
    let all = sums_all c.args.columns.now c.loop-x.x side _ c.loop-x.sums c.with-all.result c.requires.side.0 c.loop-x.invariant.sums (omega arith) c.with-all.ensures in
    sums_small c.args.columns.now c.loop-x.x side (255 * side) _ c.with-all.result all c.requires.sums (omega arith)

pub without-sums-requires-clause-had : goal.without-sums-requires-clause-had
without-sums-requires-clause-had c =
    let side = c.args.side in
    let all = sums_all c.args.columns.now c.loop-x.x side _ c.loop-x.sums c.with-all.result c.requires.side.0 c.loop-x.invariant.sums (omega arith) c.with-all.ensures in
    sums_had c.args.columns.now c.loop-x.x side c.with-all.result c.requires.side.0 all

pub loop-x-preserved : goal.loop-x-preserved
loop-x-preserved c =
    let side = c.args.side in
    let all = sums_all c.args.columns.now c.loop-x.x side _ c.loop-x.sums c.with-all.result c.requires.side.0 c.loop-x.invariant.sums (omega arith) c.with-all.ensures in
    record {
      sums = sums_without c.args.columns.now c.loop-x.x side c.with-all.result c.without-sums.result c.requires.side.0 all c.without-sums.ensures;
      means = means_more c.args.columns.now c.loop-x.line c.put_means.new.line c.loop-x.x side c.args.count.count c.with-all.result
          c.loop-x.invariant.means all c.requires.count (omega arith) c.put_means.ensures;
    }
