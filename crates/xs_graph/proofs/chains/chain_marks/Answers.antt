use Rattle.std.proofs.Common.{◌≡◌, ◌==◌, ◌≤◌, ◌+◌, Bool, List, All, false, refl, subst, arith}
use Rattle.xs_graph.proofs.ChainMarks.{chains_none, chains_more, chains_over}
use Rattle.xs_graph.proofs.chains.chain_marks.Goals as goal

pub loop-step-init : goal.loop-step-init
loop-step-init c = chains_none c.args.links.now _ c.in_ok-marks.ensures

pub loop-step-preserved : goal.loop-step-preserved
loop-step-preserved c =
    let same : c.deref.result.now ≡ c.loop-step.marks.items = cc in
    chains_more c.args.links.now c.loop-step.step (c.loop-step.step == 0) c.deref.result.now _ refl (rw same c.loop-step.invariant)
    c.in_ok-marks-2.ensures

pub returns-then-are_unmarked : goal.returns-then-are_unmarked
returns-then-are_unmarked c =
    let same : c.deref.result.now ≡ c.loop-step.marks.items = cc in
    let few : c.loop-step.step + 1 ≤ c.args.steps = omega arith in
    chains_over c.args.links.now (c.loop-step.step + 1) c.args.steps c.in_ok-marks-2.marks.items
    (chains_more c.args.links.now c.loop-step.step (c.loop-step.step == 0) c.deref.result.now _ refl (rw same c.loop-step.invariant)
    c.in_ok-marks-2.ensures)
    (omega arith) few
    (subst (λ (l : List Bool). All (λ mark. mark ≡ false) l) c.deref-in-loop-step.ensures.value
    (c.are_unmarked.ensures.0 c.if-are_unmarked.true))
