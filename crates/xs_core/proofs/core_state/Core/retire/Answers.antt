use Rattle.xs_core.specs.Kept.{world}
use Rattle.xs_core.proofs.KeptLemmas.{left_some, keeps_retire_more, keeps_retire_last}
use Rattle.std.proofs.Common.{arith, subst}
use Rattle.xs_plan.specs.Record.{PlanRecord}
use Rattle.xs_core.specs.Events.{MayServe}
use Rattle.xs_core.proofs.core_state.Core.retire.Goals as goal

pub overflow_sub-index_mut : goal.overflow_sub-index_mut
overflow_sub-index_mut c =
    let some = left_some c.self.inside.plan.value
    (world c.self.inside.phases.items c.self.inside.reads.items c.self.inside.tiles.items) _ _ c.args.self.now c.args.p.now
    c.args.seat c.args.read c.edge_of-edge.result.source c.self.view_is c.requires.plan c.self.invariant
    (c.requires.there, c.edge_of-edge.ensures.source, c.edge_of-edge.ensures.source_there, c.may_serve.ensures.0 c.if-not-may_serve.false)
    c.index_mut-2.result.now c.index_mut-2.ensures.value in
    omega (arith, some)

pub invariant_of-self : goal.invariant_of-self
invariant_of-self c =
    (keeps_retire_last c.self.inside.plan.value
    (world c.self.inside.phases.items c.self.inside.reads.items c.self.inside.tiles.items) _ _ c.args.self.now c.args.p.now
    c.args.seat c.args.read c.edge_of-edge.result.source _ _ c.self.view_is c.requires.plan c.self.invariant
    (c.requires.there, c.edge_of-edge.ensures.source, c.edge_of-edge.ensures.source_there, c.may_serve.ensures.0 c.if-not-may_serve.false)
    c.index_mut-2.ensures.value c.index.ensures c.if-index-eq0.true).0

pub invariant_of-self-else-index-eq0 : goal.invariant_of-self-else-index-eq0
invariant_of-self-else-index-eq0 c =
    (keeps_retire_more c.self.inside.plan.value
    (world c.self.inside.phases.items c.self.inside.reads.items c.self.inside.tiles.items) _ _ c.args.self.now c.args.p.now
    c.args.seat c.args.read c.edge_of-edge.result.source _ _ c.self.view_is c.requires.plan c.self.invariant
    (c.requires.there, c.edge_of-edge.ensures.source, c.edge_of-edge.ensures.source_there, c.may_serve.ensures.0 c.if-not-may_serve.false)
    c.index_mut-2.ensures.value c.index.ensures c.if-index-eq0.false).0

pub returns-then-index-eq0 : goal.returns-then-index-eq0
returns-then-index-eq0 c = (
  subst (λ (p : PlanRecord). MayServe p c.args.self.now.world c.args.seat c.args.read) c.requires.plan (c.may_serve.ensures.0 c.if-not-may_serve.false),
  (keeps_retire_last c.self.inside.plan.value
      (world c.self.inside.phases.items c.self.inside.reads.items c.self.inside.tiles.items) _ _ c.args.self.now c.args.p.now
      c.args.seat c.args.read c.edge_of-edge.result.source _ _ c.self.view_is c.requires.plan c.self.invariant
      (c.requires.there, c.edge_of-edge.ensures.source, c.edge_of-edge.ensures.source_there, c.may_serve.ensures.0 c.if-not-may_serve.false)
      c.index_mut-2.ensures.value c.index.ensures c.if-index-eq0.true).1,
)

pub returns-else-index-eq0 : goal.returns-else-index-eq0
returns-else-index-eq0 c = (
  subst (λ (p : PlanRecord). MayServe p c.args.self.now.world c.args.seat c.args.read) c.requires.plan (c.may_serve.ensures.0 c.if-not-may_serve.false),
  (keeps_retire_more c.self.inside.plan.value
      (world c.self.inside.phases.items c.self.inside.reads.items c.self.inside.tiles.items) _ _ c.args.self.now c.args.p.now
      c.args.seat c.args.read c.edge_of-edge.result.source _ _ c.self.view_is c.requires.plan c.self.invariant
      (c.requires.there, c.edge_of-edge.ensures.source, c.edge_of-edge.ensures.source_there, c.may_serve.ensures.0 c.if-not-may_serve.false)
      c.index_mut-2.ensures.value c.index.ensures c.if-index-eq0.false).1,
)
