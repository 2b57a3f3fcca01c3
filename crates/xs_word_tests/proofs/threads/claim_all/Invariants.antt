use Rattle.std.proofs.Common.{◌≡◌}
use Rattle.xs_word_tests.specs.Hands.{IsFree, IsSeat}
use Rattle.xs_word_tests.proofs.threads.claim_all.Given as goal

abbrev pub invariant-loop-k : goal.invariant-loop-k
invariant-loop-k g l = record {
  plan : g.D.Desk.plan l.desk ≡ l.p;
  seat : IsSeat (g.D.Desk.view l.initial.desk) (g.D.Desk.view l.desk);
  free : IsFree (g.D.Desk.view l.desk);
}
