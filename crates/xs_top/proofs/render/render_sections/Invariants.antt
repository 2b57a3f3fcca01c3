use Rattle.std.proofs.Common.{◌≡◌, ◌+◌, ◌-◌, ◌≤◌, ℕ, [], map, Some}
use Rattle.std.specs.List.{range_with_len}
use Rattle.xs_base.specs.Sections.{section_rows, sections_in, sections_of, rows_before}
use Rattle.xs_levels.specs.Films.{Files}
use Rattle.xs_levels.specs.Stocked.{IsStock}
use Rattle.xs_levels.specs.Table.{table_of}
use Rattle.xs_plan.specs.Record.{rows_in}
use Rattle.xs_render.specs.Computed.{IsRecorded}
use Rattle.xs_render.specs.Progress.{IsReady}
use Rattle.xs_render.specs.Scenes.{area_of}
use Rattle.xs_top.specs.declared.limits.TheConstants.{MOST_SECTION_BYTES}
use Rattle.xs_top.specs.declared.status.Status.TheVariants as answers
use Rattle.xs_top.specs.Leaves.{Keeps}
use Rattle.xs_top.specs.Outcome.{rendering_sections}
use Rattle.xs_top.specs.Runs.{Did}
use Rattle.xs_top.specs.Trace.{Outcome}
use Rattle.xs_top.proofs.render.render_sections.Given as goal

abbrev pub invariant-loop-s : goal.invariant-loop-s
invariant-loop-s g l = record {
  did : (to : ℕ) → l.from + rows_in l.p ≡ to + 1 → l.from ≤ to → (files : Files) → (g.O.Outside.view l.initial.outside).seen.files ≡ Some files → (next : Outcome)
      → Did (rendering_sections files l.good l.base l.p 0 [] (sections_of l.from to) next)
      (rendering_sections files l.good l.base l.p l.s (rows_before l.from to l.s)
      (map (section_rows l.from to) (range_with_len (0 + l.s) (sections_in l.from to - l.s))) next)
      (g.O.Outside.view l.initial.outside).seen.told (g.O.Outside.view l.outside).seen.told;
  keeps : Keeps (g.O.Outside.view l.initial.outside) (g.O.Outside.view l.outside) answers.Ok;
  stock : IsStock l.p (table_of l.good) l.stock;
  loaded : l.stock.loaded ≡ l.s;
  ended : l.stock.ended ≡ l.s;
  limit : l.stock.limit ≡ MOST_SECTION_BYTES;
  frame : l.frame.plan ≡ l.p;
  area : l.frame.image.area ≡ area_of l.good;
  plan : g.D.Desk.plan l.desk ≡ l.p;
  home : (g.D.Desk.view l.desk).home ≡ (g.D.Desk.view l.initial.desk).home;
  ready : IsReady l.p l.s (g.D.Desk.view l.desk);
  recorded : IsRecorded (g.D.Desk.view l.desk) (g.B.Bench.made l.bench);
}
