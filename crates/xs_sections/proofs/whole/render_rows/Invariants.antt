use Rattle.std.proofs.Common.{◌≡◌, ℕ, List}
use Rattle.xs_render.specs.Progress.{IsRendered}
use Rattle.xs_render.specs.Computed.{IsRecorded}
use Rattle.xs_sections.proofs.whole.render_rows.Given as goal

abbrev pub invariant-loop-i : goal.invariant-loop-i
invariant-loop-i g l = record {
  plan : g.D.Desk.plan l.desk ≡ l.p;
  frame : l.frame.plan ≡ l.initial.frame.plan;
  rendered : IsRendered l.p l.s l.i (g.D.Desk.view l.desk);
  recorded : (computed : List ℕ) → IsRecorded (g.D.Desk.view l.initial.desk) computed → IsRecorded (g.D.Desk.view l.desk) computed;
}
