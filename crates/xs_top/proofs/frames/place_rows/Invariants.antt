use Rattle.std.proofs.Common.{◌≡◌, ◌+◌, ◌-◌, ◌*◌, ℕ, List, Some}
use Rattle.std.specs.List.{range_with_len}
use Rattle.xs_base.specs.declared.limits.TheConstants.{SECTION_ROWS}
use Rattle.xs_render.specs.Computed.{IsRecorded}
use Rattle.xs_render.specs.Progress.{IsRendered}
use Rattle.xs_levels.specs.Films.{Files}
use Rattle.xs_top.specs.declared.status.Status.TheVariants as answers
use Rattle.xs_top.specs.Drawings.{pictures_of}
use Rattle.xs_top.specs.Leaves.{Keeps}
use Rattle.xs_top.specs.Outcome.{placing_rows}
use Rattle.xs_top.specs.Runs.{Did}
use Rattle.xs_top.specs.Trace.{Outcome}
use Rattle.xs_top.proofs.frames.place_rows.Given as goal

abbrev pub invariant-loop-i : goal.invariant-loop-i
invariant-loop-i g l = record {
  did : (files : Files) → (g.O.Outside.view l.initial.outside).seen.files ≡ Some files → (next : Outcome)
      → Did (placing_rows l.good (pictures_of files l.good) l.base (range_with_len (l.from + l.s * SECTION_ROWS) l.count) next)
      (placing_rows l.good (pictures_of files l.good) l.base (range_with_len ((l.from + l.s * SECTION_ROWS) + l.i) (l.count - l.i)) next)
      (g.O.Outside.view l.initial.outside).seen.told (g.O.Outside.view l.outside).seen.told;
  keeps : Keeps (g.O.Outside.view l.initial.outside) (g.O.Outside.view l.outside) answers.Ok;
  plan : g.D.Desk.plan l.desk ≡ l.p;
  home : (g.D.Desk.view l.desk).home ≡ (g.D.Desk.view l.initial.desk).home;
  frame : l.frame.plan ≡ l.initial.frame.plan;
  area : l.frame.image.area ≡ l.initial.frame.image.area;
  rendered : IsRendered l.p l.s l.i (g.D.Desk.view l.desk);
  recorded : (computed : List ℕ) → IsRecorded (g.D.Desk.view l.initial.desk) computed → IsRecorded (g.D.Desk.view l.desk) computed;
}
