use Rattle.std.proofs.Common.{◌≡◌, true}
use Rattle.xs_worker.specs.Sections.{IsDone}
use Rattle.xs_sections.proofs.RowLemmas.{Gathered}
use Rattle.xs_sections.proofs.rows.gather.Given as goal

abbrev pub invariant-loop-i : goal.invariant-loop-i
invariant-loop-i g l = record {
  plan : g.D.Desk.plan l.desk ≡ l.p;
  frame : l.frame.plan ≡ l.initial.frame.plan;
  chief : (g.D.Desk.view l.desk).number ≡ 0;
  alone : (g.D.Desk.view l.desk).solo ≡ true;
  done : IsDone l.p l.s (g.D.Desk.view l.desk);
  gathered : Gathered l.p l.rows l.i (g.D.Desk.view l.desk);
}
