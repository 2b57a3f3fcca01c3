use Rattle.std.proofs.Common.{◌≡◌, ◌<◌, List, Option, length, subst, sym, ap, ◌∙◌}
use Rattle.xs_plan.specs.Record.{PlanRecord}
use Rattle.xs_raster.specs.declared.tile.Tile.{Tile}
use Rattle.xs_core.specs.Events.{MayServe}
use Rattle.xs_core.specs.States.{source_at, left}
use Rattle.xs_core.specs.Kept.{CoreRecord}
use Rattle.xs_plain_desk.specs.Stored.{IsStored}
use Rattle.xs_plain_desk.proofs.StoreLemmas.{retired_more, retired_last}
use Rattle.xs_plain_desk.proofs.store.Store.retire.Goals as goal

pub invariant_of-self : goal.invariant_of-self
invariant_of-self g c =
    let core = c.self.inside.core in
    let told = g.K.Film.pictures in
    let same = c.requires.plan ∙ ap (λ (o : CoreRecord). o.plan) (sym c.self.view_is) in
    let may = subst (λ (p : PlanRecord). MayServe p core.world 0 c.args.e) same
    (subst (λ (o : CoreRecord). MayServe c.args.p.now o.world 0 c.args.e) (sym c.self.view_is) c.requires.may) in
    let is = subst (λ (p : PlanRecord). c.edge_of-source.result.source ≡ source_at p c.args.e) same c.edge_of-source.ensures.source in
    let there = subst (λ (p : PlanRecord). c.edge_of-source.result.source < length p.entries) same c.edge_of-source.ensures.source_there in
    let reads = subst (λ (p : PlanRecord). c.left-left.result ≡ left p c.step.new.self.world c.edge_of-source.result.source) same c.left-left.ensures in
    subst (λ (l : List (Option Tile)). IsStored told c.step-then-left-eq0.new.self.plan c.step-then-left-eq0.new.self.world l) (sym c.put.ensures)
    (retired_last told core c.self.inside.tiles.items c.args.e c.edge_of-source.result.source c.left-left.result c.step.result c.step.new.self
    c.step-then-left-eq0.result c.step-then-left-eq0.new.self c.self.invariant c.step.ensures may is there reads c.if-left-eq0.true
    c.step-then-left-eq0.ensures).stored

pub invariant_of-self-else-left-eq0 : goal.invariant_of-self-else-left-eq0
invariant_of-self-else-left-eq0 g c =
    let core = c.self.inside.core in
    let told = g.K.Film.pictures in
    let same = c.requires.plan ∙ ap (λ (o : CoreRecord). o.plan) (sym c.self.view_is) in
    let may = subst (λ (p : PlanRecord). MayServe p core.world 0 c.args.e) same
    (subst (λ (o : CoreRecord). MayServe c.args.p.now o.world 0 c.args.e) (sym c.self.view_is) c.requires.may) in
    let is = subst (λ (p : PlanRecord). c.edge_of-source.result.source ≡ source_at p c.args.e) same c.edge_of-source.ensures.source in
    let reads = subst (λ (p : PlanRecord). c.left-left.result ≡ left p c.step.new.self.world c.edge_of-source.result.source) same c.left-left.ensures in
    (retired_more told core c.self.inside.tiles.items c.args.e c.edge_of-source.result.source c.left-left.result c.step.result c.step.new.self
    c.self.invariant c.step.ensures may is reads c.if-left-eq0.false).stored
