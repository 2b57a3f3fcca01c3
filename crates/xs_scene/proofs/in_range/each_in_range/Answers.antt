use Rattle.std.proofs.Common.{arith}
use Rattle.std.proofs.lemmas.List.Elements.{at_read, AllWithin-more}
use Rattle.xs_scene.proofs.in_range.each_in_range.Goals as goal

pub loop-part-preserved : goal.loop-part-preserved
loop-part-preserved g c =
    let parts = c.items-part-items.result.now in
    let i = c.loop-part.part-index in
    AllWithin-more g.T.Ranged.is_in_range parts 0 i
    c.loop-part.invariant
    (at_read parts g.T.Ranged.is_in_range i c.part-item.result c.loop-part-test.true c.part-item.is c.in_range.ensures)

pub returns : goal.returns
returns g c =
    rw (← c.items-part-items.ensures)
    (λ k d within. c.loop-part.invariant k d (omega arith) (omega (arith, within, c.loop-part-test.false)))
