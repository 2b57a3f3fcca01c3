use Rattle.std.proofs.Common.{◌≡◌, ◌≤◌}
use Rattle.xs_word_tests.specs.Hands.{RootsAreOpen, IsSeat}
use Rattle.xs_word_tests.proofs.making.show_all.Given as goal

abbrev pub invariant-loop-e : goal.invariant-loop-e
invariant-loop-e g l = record {
  plan : g.D.Desk.plan l.chief ≡ l.p;
  seat : IsSeat (g.D.Desk.view l.initial.chief) (g.D.Desk.view l.chief);
  few : l.shown ≤ l.e;
  roots : RootsAreOpen l.p l.e (g.D.Desk.view l.chief);
}
