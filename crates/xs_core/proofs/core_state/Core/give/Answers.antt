use Rattle.std.proofs.Common.{◌<◌, sym, ap, ◌∙◌, arith}
use Rattle.std.proofs.lemmas.List.{get_or_read}
use Rattle.xs_plan.specs.Reads.{reads_in}
use Rattle.xs_core.specs.declared.state.ReadState.TheVariants.{Waiting}
use Rattle.xs_core.specs.States.{read_of}
use Rattle.xs_core.specs.Kept.{CoreRecord, world}
use Rattle.xs_core.proofs.KeptLemmas.{keeps_give, told_inside}
use Rattle.xs_core.proofs.core_state.Core.give.Goals as goal

pub invariant_of-self : goal.invariant_of-self
invariant_of-self c =
    let w = world c.self.inside.phases.items c.self.inside.reads.items c.self.inside.tiles.items in
    let there = told_inside (λ p w. c.args.read < reads_in p) c.self.inside.plan.value w c.args.self.now c.args.p.now c.self.view_is c.requires.plan
    c.requires.there in
    let read_is = get_or_read c.self.inside.reads.items c.args.read c.index.result.now (omega
    (arith, there, c.self.invariant.kept.reads_many)) c.index.ensures Waiting in
    let in_turn = ap (λ (o : CoreRecord). read_of o.world c.args.read) (sym c.self.view_is) ∙ sym read_is ∙ c.is_in_turn.ensures.0 c.if-not-is_in_turn.false in
    keeps_give c.self.inside.plan.value w _ _ c.args.self.now c.args.p.now
    c.args.seat c.args.read c.edge_of-source.result.source c.self.view_is c.requires.plan c.self.invariant
    (c.requires.there, c.edge_of-source.ensures.source, c.edge_of-source.ensures.source_there, in_turn)
