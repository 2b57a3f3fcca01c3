use Rattle.std.proofs.Common.{◌≡◌}
use Rattle.xs_render.specs.Progress.{IsReady}
use Rattle.xs_render.specs.Computed.{IsRecorded}
use Rattle.xs_sections.proofs.whole.render_all.Given as goal

abbrev pub invariant-loop-s : goal.invariant-loop-s
invariant-loop-s g l = record {
  plan : g.D.Desk.plan l.desk ≡ l.p;
  frame : l.frame.plan ≡ l.initial.frame.plan;
  ready : IsReady l.p l.s (g.D.Desk.view l.desk);
  recorded : IsRecorded (g.D.Desk.view l.desk) (g.B.Bench.made l.bench);
}
