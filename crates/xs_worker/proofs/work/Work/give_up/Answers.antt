use Rattle.std.proofs.Common.{ℕ, List, Some, ◌∙◌, ap, sym}
use Rattle.xs_worker.specs.Piles.{last_or}
use Rattle.xs_worker.proofs.WorkLemmas.{top_claimed}
use Rattle.xs_worker.proofs.RunLemmas.{gave_more, last_next}
use Rattle.xs_worker.proofs.work.Work.give_up.Goals as goal

pub abandon-requires-clause-claimed : goal.abandon-requires-clause-claimed
abandon-requires-clause-claimed g c =
    top_claimed (g.D.Desk.plan c.args.desk.now) c.args.self.now.targets.items c.claims.self.stack.items (g.D.Desk.view c.claims.desk) c.in-Some.k
    c.claims.invariant.gave.fits (sym c.in-Some.ensures)

pub claims-preserved : goal.claims-preserved
claims-preserved g c = record {
  plan = c.abandon.ensures.plan ∙ c.claims.invariant.plan;
  targets = c.claims.invariant.targets;
  next = c.claims.invariant.next;
  gave = gave_more (g.D.Desk.plan c.args.desk.now) c.args.self.now.targets.items c.args.self.now.stack.items (g.D.Desk.view c.args.desk.now)
      c.claims.self.stack.items (g.D.Desk.view c.claims.desk) c.pop.new.self.items (g.D.Desk.view c.abandon.new.self) c.in-Some.k
      c.claims.invariant.gave (sym c.in-Some.ensures) c.abandon.ensures.told c.pop.ensures;
  last = ap (λ (l : List ℕ). last_or (Some c.in-Some.k) l) c.pop.ensures
      ∙ last_next c.claims.last c.claims.self.stack.items c.in-Some.k (sym c.in-Some.ensures) ∙ c.claims.invariant.last;
}
