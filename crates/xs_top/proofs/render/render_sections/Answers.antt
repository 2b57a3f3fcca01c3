use Rattle.std.proofs.Common.{◌≡◌, ◌∙◌, ◌+◌, ◌-◌, ◌<◌, ◌≤◌, List, ℕ, map, refl, sym, subst, arith}
use Rattle.std.specs.List.{range_with_len}
use Rattle.std.proofs.lemmas.Result.{err_from_is_err_and}
use Rattle.xs_base.specs.Sections.{section_rows, rows_before}
use Rattle.xs_base.specs.Sections.{sections_in as sections_of_rows}
use Rattle.xs_levels.specs.Films.{Files}
use Rattle.xs_plan.specs.Record.{PlanRecord}
use Rattle.xs_plan.specs.Sections.{sections_in}
use Rattle.xs_render.specs.Computed.{IsRecorded}
use Rattle.xs_render.specs.Progress.{IsReady}
use Rattle.xs_scene.specs.Records.{SceneRecord}
use Rattle.xs_top.specs.Outcome.{rendering_sections}
use Rattle.xs_top.specs.Trace.{Outcome}
use Rattle.xs_top.proofs.Parts.{did_nothing, did_to, did_then, stopped_then, stopped_here, keeps_nothing, ok_inside, keeps_then}
use Rattle.xs_top.proofs.Progressing.{sections_many, recorded_none}
use Rattle.xs_top.proofs.Sections.{sections_are, section_step, sections_over}
use Rattle.xs_top.proofs.render.render_sections.Goals as goal

-- what is left behind some sections
abbrev rest : Files → SceneRecord → List ℕ → PlanRecord → (from to i : ℕ) → Outcome → Outcome
rest files s base p from to i next =
    rendering_sections files s base p i (rows_before from to i) (map (section_rows from to) (range_with_len (0 + i) (sections_of_rows from to - i))) next

pub returns-in_err-stock-clause-did : goal.returns-in_err-stock-clause-did
returns-in_err-stock-clause-did g c = λ to all ordered files e next.
    let p = err_from_is_err_and c.from_residual.result c.from_residual.ensures.1 in
    rw (p.1, p.2) (stopped_here _ _)

pub returns-in_err-stock-clause-twice : goal.returns-in_err-stock-clause-twice
returns-in_err-stock-clause-twice g c = recorded_none _ c.requires.unused

pub returns-in_err-frame-clause-did : goal.returns-in_err-frame-clause-did
returns-in_err-frame-clause-did g c = λ to all ordered files e next.
    let p = err_from_is_err_and c.from_residual-in_err-frame.result c.from_residual-in_err-frame.ensures.1 in
    rw (p.1, p.2) (stopped_here _ _)

pub returns-in_err-frame-clause-twice : goal.returns-in_err-frame-clause-twice
returns-in_err-frame-clause-twice g c = recorded_none _ c.requires.unused

pub loop-s-init : goal.loop-s-init
loop-s-init g c = record {
  did = λ to all ordered files e next.
      let whole : sections_of_rows c.args.from to - 0 ≡ sections_of_rows c.args.from to = omega arith in
      rw (sections_are c.args.from to, whole) (did_nothing _ _);
  keeps = keeps_nothing _ _ ok_inside;
  stock = c.in_ok-stock.ensures.stock;
  loaded = c.in_ok-stock.ensures.none.0;
  ended = c.in_ok-stock.ensures.none.1;
  limit = c.in_ok-stock.ensures.limit;
  frame = c.in_ok-frame.ensures.plan;
  area = c.in_ok-frame.ensures.area;
  plan = c.requires.plan;
  home = refl;
  ready = c.nothing_is_rendered_yet.ensures.ready;
  recorded = subst (λ (l : List ℕ). IsRecorded (g.D.Desk.view c.args.desk.now) l) (sym c.requires.unused)
      c.nothing_is_rendered_yet.ensures.recorded;
}

pub returns-in_err-render_section-clause-did : goal.returns-in_err-render_section-clause-did
returns-in_err-render_section-clause-did g c = λ to all ordered files e next.
    let p = err_from_is_err_and c.from_residual-in_err-render_section.result c.from_residual-in_err-render_section.ensures.1 in
    let scene = c.args.good.now in
    let base = c.args.base.now in
    let from = c.args.from in
    let i = c.loop-s.s in
    let before = c.loop-s.invariant in
    let many = sections_many c.sections_of_a_plan_are_those_of_its_rows.ensures.sections scene from to c.args.p.now ordered c.requires.scene all in
    let within : i < sections_of_rows from to = omega (arith, many) in
    let then = c.in_err-render_section.ensures.did to all files (before.keeps.left.files ∙ e) (rest files scene base c.args.p.now from to (i + 1) next) in
    rw (p.1, p.2) (stopped_then _ _ _ _ _ _ (before.did to all ordered files e next) before.keeps.left
    (rw (section_step files scene base c.args.p.now from to (sections_of_rows from to) i next within) then))

pub returns-in_err-render_section-clause-keeps : goal.returns-in_err-render_section-clause-keeps
returns-in_err-render_section-clause-keeps g c =
    let p = err_from_is_err_and c.from_residual-in_err-render_section.result c.from_residual-in_err-render_section.ensures.1 in
    rw (p.1, p.2) (keeps_then _ _ _ _ c.loop-s.invariant.keeps c.in_err-render_section.ensures.keeps)

pub loop-s-preserved : goal.loop-s-preserved
loop-s-preserved g c =
    let scene = c.args.good.now in
    let base = c.args.base.now in
    let from = c.args.from in
    let i = c.loop-s.s in
    let before = c.loop-s.invariant in
    let now = c.in_ok-render_section.ensures in
    record {
      did = λ to all ordered files e next.
          let many = sections_many c.sections_of_a_plan_are_those_of_its_rows.ensures.sections scene from to c.args.p.now ordered c.requires.scene all in
          let within : i < sections_of_rows from to = omega (arith, many) in
          let then = now.did to all files (before.keeps.left.files ∙ e) (rest files scene base c.args.p.now from to (i + 1) next) in
          did_then (before.did to all ordered files e next)
          (rw (section_step files scene base c.args.p.now from to (sections_of_rows from to) i next within) then);
      keeps = keeps_then _ _ _ _ before.keeps now.keeps;
      stock = now.stock;
      loaded = now.loaded.0;
      ended = now.loaded.1;
      limit = now.limit;
      frame = now.frame ∙ before.frame;
      area = now.area ∙ before.area;
      plan = now.plan;
      home = now.home ∙ before.home;
      ready = now.ready;
      recorded = now.recorded;
    }

pub all_is_rendered-requires-clause-ready : goal.all_is_rendered-requires-clause-ready
all_is_rendered-requires-clause-ready g c =
    let same : c.loop-s.s ≡ sections_in c.args.p.now = omega arith in
    subst (λ (n : ℕ). IsReady c.args.p.now n (g.D.Desk.view c.loop-s.desk)) same c.loop-s.invariant.ready

pub returns-clause-did : goal.returns-clause-did
returns-clause-did g c = λ to all ordered files e next.
    let scene = c.args.good.now in
    let many = sections_many c.sections_of_a_plan_are_those_of_its_rows.ensures.sections scene c.args.from to c.args.p.now ordered c.requires.scene all in
    let past : sections_of_rows c.args.from to ≤ c.loop-s.s = omega (arith, many) in
    did_to _ _ _ _ _ (c.loop-s.invariant.did to all ordered files e next)
    (sections_over files scene c.args.base.now c.args.p.now c.loop-s.s _ c.args.from to (sections_of_rows c.args.from to) c.loop-s.s next past)

pub returns-clause-each : goal.returns-clause-each
returns-clause-each g c = c.all_is_rendered.ensures.computed (g.B.Bench.made c.loop-s.bench) c.loop-s.invariant.recorded

pub returns-clause-twice : goal.returns-clause-twice
returns-clause-twice g c = c.loop-s.invariant.recorded.once
