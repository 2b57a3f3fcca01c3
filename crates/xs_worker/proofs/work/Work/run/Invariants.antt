use Rattle.std.proofs.Common.{◌≡◌, ◌+◌, ◌-◌, length}
use Rattle.xs_worker.specs.Claims.{work_left}
use Rattle.xs_worker.proofs.RunLemmas.{IsAt}
use Rattle.xs_worker.proofs.work.Work.run.Given as goal

abbrev pub invariant-targets : goal.invariant-targets
invariant-targets g l = record {
  plan : g.D.Desk.plan l.desk ≡ l.fn.p;
  at : IsAt l.fn.p l.fn.self.targets.items l.fn.self.stack.items (g.D.Desk.view l.fn.desk) (g.B.Bench.made l.fn.bench) l.self.targets.items
      l.self.next l.self.stack.items (g.D.Desk.view l.desk) (g.B.Bench.made l.bench);
}

abbrev pub decreases-targets : goal.decreases-targets
decreases-targets g l = work_left l.fn.p l.self.stack.items (g.D.Desk.view l.desk) + (length l.self.targets.items - l.self.next)
