use Rattle.std.proofs.Common.{◌≡◌, ◌<◌, List, Option, Some, length, set, subst, sym, ap, ◌∙◌}
use Rattle.xs_plan.specs.Record.{PlanRecord}
use Rattle.xs_raster.specs.declared.tile.Tile.{Tile}
use Rattle.xs_core.specs.declared.event.Event.TheVariants.{Finish}
use Rattle.xs_core.specs.declared.state.Phase.TheVariants.{Claimed}
use Rattle.xs_core.specs.Kept.{CoreRecord}
use Rattle.xs_core.specs.Calls.{HoldsTile}
use Rattle.xs_core.specs.States.{phase_of}
use Rattle.xs_plain_desk.specs.Stored.{IsStored}
use Rattle.xs_plain_desk.proofs.StoreLemmas.{done, stored_put}
use Rattle.xs_plain_desk.proofs.store.Store.finish.Goals as goal

pub invariant_of-self : goal.invariant_of-self
invariant_of-self g c =
    let core = c.self.inside.core in
    let told = g.K.Film.pictures in
    let same = c.requires.plan ∙ ap (λ (o : CoreRecord). o.plan) (sym c.self.view_is) in
    let there = subst (λ (p : PlanRecord). c.args.k < length p.entries) same c.requires.there in
    let value = subst (λ (p : PlanRecord). HoldsTile told p c.args.k c.args.t) same c.requires.value in
    let claimed = subst (λ (o : CoreRecord). phase_of o.world c.args.k ≡ Claimed 0) (sym c.self.view_is) c.requires.claimed in
    let happened = done core (Finish 0 c.args.k) c.step.result c.step.new.self c.step.ensures claimed in
    subst (λ (l : List (Option Tile)). IsStored told c.step.new.self.plan c.step.new.self.world l) (sym c.put.ensures)
    (subst (λ (o : CoreRecord). IsStored told o.plan o.world (set c.self.inside.tiles.items c.args.k (Some c.args.t))) (sym happened)
    (stored_put told core.plan core.world c.self.inside.tiles.items c.args.k c.args.t c.self.invariant there value))
