use Rattle.std.proofs.Common.{◌<◌, length, sym, ◌∙◌, arith}
use Rattle.std.proofs.lemmas.List.{get_or_read}
use Rattle.xs_core.specs.declared.state.Phase.TheVariants.{Idle}
use Rattle.xs_core.specs.Kept.{world}
use Rattle.xs_core.proofs.KeptLemmas.{keeps_finish}
use Rattle.xs_core.proofs.core_state.Core.finish.Goals as goal

pub invariant_of-self : goal.invariant_of-self
invariant_of-self c =
    let there : c.args.alias < length c.self.inside.plan.value.entries = rw (← c.self.view_is) at c.requires in
    let phase_is = get_or_read c.self.inside.phases.items c.args.alias c.index.result.now (omega
    (arith, there, c.self.invariant.kept.phases_many)) c.index.ensures Idle in
    keeps_finish c.self.inside.plan.value (world c.self.inside.phases.items c.self.inside.reads.items c.self.inside.tiles.items) _ _ c.args.alias c.args.seat
    c.self.invariant there (sym phase_is ∙ c.is_claimed.ensures.0 c.if-not-is_claimed.false)
