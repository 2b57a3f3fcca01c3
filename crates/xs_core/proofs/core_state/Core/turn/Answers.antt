use Rattle.std.proofs.Common.{◌≡◌, Bool, get_or, subst, sym}
use Rattle.xs_core.specs.Kept.{world}
use Rattle.xs_core.proofs.KeptLemmas.{keeps_turn}
use Rattle.xs_core.proofs.core_state.Core.turn.Goals as goal

pub invariant_of-self : goal.invariant_of-self
invariant_of-self c =
    keeps_turn c.self.inside.plan.value (world c.self.inside.phases.items c.self.inside.reads.items c.self.inside.tiles.items) _ _ c.args.self.now c.args.p.now
    c.args.seat c.args.read c.edge_of-edge.result.source c.self.view_is c.requires.plan c.self.invariant
    (subst (λ (b : Bool). get_or c.self.inside.turning.items c.edge_of-edge.result.source b ≡ b) c.if-index.false (sym c.index.ensures))
    (c.requires.there, c.edge_of-edge.ensures.source, c.edge_of-edge.ensures.source_there, c.may_serve.ensures.0 c.if-not-may_serve.false)
