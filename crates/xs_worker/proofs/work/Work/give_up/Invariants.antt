use Rattle.std.proofs.Common.{◌≡◌, length, None}
use Rattle.xs_worker.specs.Piles.{last_or}
use Rattle.xs_worker.proofs.RunLemmas.{GaveUp}
use Rattle.xs_worker.proofs.work.Work.give_up.Given as goal

abbrev pub invariant-claims : goal.invariant-claims
invariant-claims g l = record {
  plan : g.D.Desk.plan l.desk ≡ g.D.Desk.plan l.fn.desk;
  targets : l.self.targets.items ≡ l.fn.self.targets.items;
  next : l.self.next ≡ l.fn.self.next;
  gave : GaveUp (g.D.Desk.plan l.fn.desk) l.fn.self.targets.items l.fn.self.stack.items (g.D.Desk.view l.fn.desk) l.self.stack.items
      (g.D.Desk.view l.desk);
  last : last_or l.last l.self.stack.items ≡ last_or None l.fn.self.stack.items;
}

abbrev pub decreases-claims : goal.decreases-claims
decreases-claims g l = length l.self.stack.items
