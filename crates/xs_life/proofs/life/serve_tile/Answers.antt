use Rattle.std.proofs.Common.{◌<◌, ◌∙◌, ℕ, subst, sym}
use Rattle.xs_plan.specs.Record.{PlanRecord}
use Rattle.xs_plan.specs.declared.job.Reader.{Reader}
use Rattle.xs_core.specs.States.{source_at}
use Rattle.xs_core.specs.Views.{MayRead}
use Rattle.xs_core.specs.Calls.{HoldsTile}
use Rattle.xs_life.specs.Alive.{IsMade}
use Rattle.xs_life.proofs.AliveLemmas.{alive_may, alive_served, reading_holds}
use Rattle.xs_life.proofs.life.serve_tile.Goals as goal

pub read-requires : goal.read-requires
read-requires g c =
    let source = subst (λ (k : ℕ). k < c.args.aliases) c.edge_of-edge.ensures.source c.if-edge-aliases.false in
    let made = subst (λ (r : Reader). IsMade c.args.aliases r) c.edge_of-edge.ensures.reader (c.is_made.ensures.0 c.if-not-is_made.false) in
    subst (λ (p : PlanRecord). MayRead p (g.D.Desk.view c.args.desk.now) c.args.e) c.requires.plan
    (alive_may c.args.p.now _ c.args.aliases c.args.e c.requires.alive c.requires.there source made)

pub retire-left-requires : goal.retire-left-requires
retire-left-requires g c =
    let stays = c.seats_may_go_on.ensures.reading _ _ _ _ c.args.e c.in-Ok-Got.field-0 c.in-Ok-Got.ensures.told in
    let source = subst (λ (k : ℕ). k < c.args.aliases) c.edge_of-edge.ensures.source c.if-edge-aliases.false in
    let made = subst (λ (r : Reader). IsMade c.args.aliases r) c.edge_of-edge.ensures.reader (c.is_made.ensures.0 c.if-not-is_made.false) in
    let may = alive_may c.args.p.now _ c.args.aliases c.args.e c.requires.alive c.requires.there source made in
    subst (λ (p : PlanRecord). MayRead p (g.D.Desk.view c.read.new.self) c.args.e) (c.requires.plan ∙ sym c.in-Ok-Got.ensures.plan)
    (c.seats_may_go_on.ensures.reads c.args.p.now _ _ c.args.e stays may)

pub returns-in-Ok-Got-clause-alive : goal.returns-in-Ok-Got-clause-alive
returns-in-Ok-Got-clause-alive g c = λ some.
    alive_served (g.D.Desk.plan c.read.new.self) _ _ _ c.args.aliases c.args.e _ c.requires.alive
    (c.seats_may_go_on.ensures.reading _ _ _ _ c.args.e c.in-Ok-Got.field-0 c.in-Ok-Got.ensures.told) c.retire-left.ensures.told

pub returns-in-Ok-Got-clause-value : goal.returns-in-Ok-Got-clause-value
returns-in-Ok-Got-clause-value g c =
    subst (λ (p : PlanRecord). HoldsTile g.K.Film.pictures p (source_at p c.args.e) c.in-Ok-Got.tile) (sym c.requires.plan)
    (reading_holds g.K.Film.pictures (g.D.Desk.plan c.args.desk.now) (g.D.Desk.view c.args.desk.now) (g.D.Desk.view c.read.new.self)
    c.args.e c.in-Ok-Got.field-0 c.in-Ok-Got.tile c.in-Ok-Got.field-0-is c.in-Ok-Got.ensures.told)
