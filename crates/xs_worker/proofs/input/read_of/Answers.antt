use Rattle.std.proofs.Common.{◌≡◌, ◌∷◌, [], ◌++◌, ◌∙◌, ap, sym, arith}
use Rattle.xs_plan.specs.Record.{PlanRecord}
use Rattle.xs_core.specs.States.{source_at}
use Rattle.xs_core.specs.Views.{meeting, FoundInTurn}
use Rattle.xs_worker.proofs.input.read_of.Goals as goal

pub returns-in-Turn-clause-told : goal.returns-in-Turn-clause-told
returns-in-Turn-clause-told g c =
    let turn = rw c.in-Turn.is at c.in-Ok.ensures.told in
    let port = c.requires.tells.read c.args.k c.args.port c.args.e c.requires.there c.requires.read in
    let same : source_at (g.D.Desk.plan c.args.desk.now) c.args.e ≡ c.edge_of.result.source =
    ap (λ (p : PlanRecord). source_at p c.args.e) c.requires.plan ∙ sym c.edge_of.ensures.source in (
      (
        turn.0,
        λ other. turn.1 other ∙ ap (λ i. (g.D.Desk.view c.args.desk.now).met ++ meeting i FoundInTurn ∷ []) same,
        turn.2,
      ),
      omega (arith, c.edge_of.ensures.source, port.earlier),
    )
