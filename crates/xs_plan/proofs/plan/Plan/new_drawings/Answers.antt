-- The new drawings of a section stand from where it starts among all.
use Rattle.std.proofs.Common.{ap, ◌∙◌, length, ◌-◌, take, drop, arith}
use Rattle.xs_plan.specs.Record.{PlanRecord}
use Rattle.xs_plan.specs.Needed.{new_drawings}
use Rattle.xs_plan.proofs.NeedLemmas.{new_drawings-found}
use Rattle.xs_plan.proofs.plan.Plan.new_drawings.Goals as goal

pub part-requires-clause-order : goal.part-requires-clause-order
part-requires-clause-order c =
    let lt = rw (← c.self.view_is) at c.requires in
    (new_drawings-found c.self.invariant.new c.args.s _ _ lt c.index-from.ensures c.index-to.ensures).order

pub part-requires-clause-within : goal.part-requires-clause-within
part-requires-clause-within c =
    let lt = rw (← c.self.view_is) at c.requires in
    let stands = new_drawings-found c.self.invariant.new c.args.s _ _ lt c.index-from.ensures c.index-to.ensures in
    omega (arith, stands.within, ap length c.as_slice.ensures.value)

pub returns : goal.returns
returns c =
    let lt = rw (← c.self.view_is) at c.requires in
    let from = c.index-from.result.now in
    let to = c.index-to.result.now in
    let stands = new_drawings-found c.self.invariant.new c.args.s from to lt c.index-from.ensures c.index-to.ensures in
    c.part.ensures ∙ ap (λ l. take (to - from) (drop from l)) c.as_slice.ensures.value ∙ stands.is
    ∙ ap (λ (p : PlanRecord). new_drawings p c.args.s) c.self.view_is
