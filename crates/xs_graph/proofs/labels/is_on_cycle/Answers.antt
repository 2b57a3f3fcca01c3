use Rattle.std.proofs.Common.{IfOk, IfSome, IsTrue, ◌↔◌, Option, ℕ, subst, sym}
use Rattle.xs_graph.specs.Paths.{LiesOnCycle}
use Rattle.xs_graph.proofs.labels.is_on_cycle.Goals as goal

pub returns-in-Ok : goal.returns-in-Ok
returns-in-Ok c =
    let links = c.args.links.now in
    subst (λ (o : Option ℕ). IfOk c.leads_back.result (λ b. IsTrue b ↔ IfSome o (LiesOnCycle links))) (sym c.in-Some.is)
    (subst (λ (n : ℕ). IfOk c.leads_back.result (λ b. IsTrue b ↔ LiesOnCycle links n)) c.in-Ok.ensures.1 c.leads_back.ensures)
