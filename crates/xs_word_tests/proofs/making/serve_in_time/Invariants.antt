use Rattle.std.proofs.Common.{◌≡◌}
use Rattle.xs_word_tests.specs.Hands.{HasOne, AreOpen, IsSeat}
use Rattle.xs_word_tests.proofs.making.serve_in_time.Given as goal

abbrev pub invariant-loop-try : goal.invariant-loop-try
invariant-loop-try g l = record {
  plan : g.D.Desk.plan l.desk ≡ l.p;
  seat : IsSeat (g.D.Desk.view l.initial.desk) (g.D.Desk.view l.desk);
  one : HasOne l.k (g.D.Desk.view l.desk);
  open_ones : AreOpen l.p l.k l.e (g.D.Desk.view l.desk);
}
