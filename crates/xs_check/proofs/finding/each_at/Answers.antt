use Rattle.std.proofs.Common.{◌≡◌, ◌<◌, true, false, is_err, length, arith}
use Rattle.xs_fault.specs.Paths.{index_at}
use Rattle.xs_check.specs.Finding.{in_list}
use Rattle.xs_check.proofs.Findings.{each_passed, each_failed, finds_none}
use Rattle.xs_check.proofs.finding.each_at.Goals as goal

pub returns-then-is_err : goal.returns-then-is_err
unfolding in_list
returns-then-is_err g c =
    let below : c.loop-i.i < length c.args.items.now = omega arith in
    let at : c.item.result ≡ index_at c.args.at.now c.loop-i.i = let k = c.in-Ok.ensures in cc in
    let failed : is_err c.look-looked.result ≡ true = cc in
    each_failed (λ i x. g.R.Requirement.finds c.args.required.now (index_at c.args.at.now i) x) c.args.items.now c.loop-i.i c.index-items-i.result
    _ below c.index-items-i.is c.look-looked.result failed (rw at at c.look-looked.ensures) c.loop-i.invariant

pub loop-i-preserved : goal.loop-i-preserved
loop-i-preserved g c =
    let below : c.loop-i.i < length c.args.items.now = omega arith in
    let at : c.item.result ≡ index_at c.args.at.now c.loop-i.i = let k = c.in-Ok.ensures in cc in
    let passed : is_err c.look-looked.result ≡ false = cc in
    each_passed (λ i x. g.R.Requirement.finds c.args.required.now (index_at c.args.at.now i) x) c.args.items.now c.loop-i.i c.index-items-i.result
    _ below c.index-items-i.is (finds_none _ c.look-looked.result passed (rw at at c.look-looked.ensures)) c.loop-i.invariant
