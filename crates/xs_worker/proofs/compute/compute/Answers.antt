use Rattle.std.proofs.Common.{[], ◌∷◌, ◌∙◌, sym, subst, refl, arith}
use Rattle.std.proofs.lemmas.List.{append-nil}
use Rattle.xs_raster.specs.declared.tile.Tile.{Tile}
use Rattle.xs_core.specs.Calls.{HoldsTile}
use Rattle.xs_worker.proofs.GrewLemmas.{none_of}
use Rattle.xs_worker.proofs.Lists.{times-one}
use Rattle.xs_worker.proofs.GrewLemmas.{stays_same, stays_then}
use Rattle.xs_worker.proofs.WorkLemmas.{may_after, turn_then}
use Rattle.xs_worker.proofs.compute.compute.Goals as goal

pub input_at-requires-clause-may : goal.input_at-requires-clause-may
input_at-requires-clause-may g c = λ e is. c.requires.may 0 e is

pub input_at-requires-2-clause-may : goal.input_at-requires-2-clause-may
input_at-requires-2-clause-may g c = λ e is.
    may_after c.args.p.now (g.D.Desk.view c.args.desk.now) (g.D.Desk.view c.input_at.new.desk) [] [] e c.in-There.ensures.told.0 refl (c.requires.may 1 e is)

pub returns-in-Turn-input_at-clause-told : goal.returns-in-Turn-input_at-clause-told
returns-in-Turn-input_at-clause-told g c = (
  turn_then (g.D.Desk.view c.args.desk.now) (g.D.Desk.view c.input_at.new.desk) (g.D.Desk.view c.input_at-2.new.desk) c.in-Turn-input_at.i
      c.in-There.ensures.told.0 c.in-Turn-input_at.ensures.told.0,
  c.in-Turn-input_at.ensures.told.1,
  refl,
)

pub returns-in-Turn-clause-told : goal.returns-in-Turn-clause-told
returns-in-Turn-clause-told g c = (
  turn_then (g.D.Desk.view c.args.desk.now) (g.D.Desk.view c.args.desk.now) (g.D.Desk.view c.input_at.new.desk) c.in-Turn.i
      (stays_same (g.D.Desk.view c.args.desk.now)) c.in-Turn.ensures.told.0,
  c.in-Turn.ensures.told.1,
  refl,
)

pub returns-in-Short-input_at-clause-told : goal.returns-in-Short-input_at-clause-told
returns-in-Short-input_at-clause-told g c = (
  stays_then (g.D.Desk.view c.args.desk.now) (g.D.Desk.view c.input_at.new.desk) (g.D.Desk.view c.input_at-2.new.desk) c.in-There.ensures.told.0
      c.in-Short-input_at.ensures.told,
  ([], omega arith, λ j some. absurd (none_of j some), sym (append-nil (g.B.Bench.made c.args.bench.now))),
)

pub returns-in-Ok-new-clause-told : goal.returns-in-Ok-new-clause-told
returns-in-Ok-new-clause-told g c = (
  stays_then (g.D.Desk.view c.args.desk.now) (g.D.Desk.view c.input_at.new.desk) (g.D.Desk.view c.input_at-2.new.desk) c.in-There.ensures.told.0
      c.in-There-input_at.ensures.told.0,
  subst (λ (t : Tile). HoldsTile g.K.Film.pictures c.args.p.now c.args.k t) (sym c.in-Ok-new.ensures) c.in-Ok.ensures.value,
  c.in-Ok.ensures.gained,
)

pub returns-in-Ok-clause-told : goal.returns-in-Ok-clause-told
returns-in-Ok-clause-told g c = (
  stays_then (g.D.Desk.view c.args.desk.now) (g.D.Desk.view c.input_at.new.desk) (g.D.Desk.view c.input_at-2.new.desk) c.in-There.ensures.told.0
      c.in-There-input_at.ensures.told.0,
  (c.args.k ∷ [], omega arith, λ j some. sym (times-one j c.args.k some), c.in-Ok.ensures.gained),
)

pub returns-clause-told : goal.returns-clause-told
returns-clause-told g c = (
  stays_then (g.D.Desk.view c.args.desk.now) (g.D.Desk.view c.input_at.new.desk) (g.D.Desk.view c.input_at-2.new.desk) c.in-There.ensures.told.0
      c.in-There-input_at.ensures.told.0,
  (
    [],
    omega arith,
    λ j some. absurd (none_of j some),
    c.in-Err.ensures.left ∙ sym (append-nil (g.B.Bench.made c.args.bench.now)),
  ),
)
