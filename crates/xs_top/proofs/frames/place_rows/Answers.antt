use Rattle.std.proofs.Common.{◌≡◌, ◌+◌, ◌-◌, ◌*◌, ◌<◌, ◌≤◌, ◌∙◌, List, ℕ, min, refl, sym, ap, subst, arith}
use Rattle.std.specs.List.{range_with_len}
use Rattle.std.proofs.lemmas.Result.{err_from_is_err_and}
use Rattle.xs_base.specs.declared.limits.TheConstants.{SECTION_ROWS}
use Rattle.xs_base.specs.Sections.{section_rows}
use Rattle.xs_render.specs.Progress.{IsRendered, rows_of_section}
use Rattle.xs_scene.specs.Records.{SceneRecord}
use Rattle.xs_pixel.specs.Picture.{Pictures}
use Rattle.xs_top.specs.Trace.{Outcome}
use Rattle.xs_top.specs.Drawings.{pictures_of}
use Rattle.xs_top.specs.Outcome.{placing_rows}
use Rattle.xs_top.proofs.Parts.{did_nothing, did_to, did_then, stopped_then, stopped_memory, keeps_nothing, ok_inside, keeps_then, keeps_memory}
use Rattle.xs_top.proofs.Placed.{placing_over}
use Rattle.xs_top.proofs.Progressing.{section_rows_are, placing_next}
use Rattle.xs_top.proofs.frames.place_rows.Goals as goal

-- what is left behind some rows
abbrev rest : SceneRecord → Pictures → List ℕ → (from s rows i : ℕ) → Outcome → Outcome
rest scene pictures base from s rows i next =
    placing_rows scene pictures base (range_with_len ((from + s * SECTION_ROWS) + i) (rows - i)) next

pub loop-i-init : goal.loop-i-init
loop-i-init g c = record {
  did = λ files e next.
      let here : (c.args.from + c.args.s * SECTION_ROWS) + 0 ≡ c.args.from + c.args.s * SECTION_ROWS = omega arith in
      let all : c.min-count.result - 0 ≡ c.min-count.result = omega arith in
      rw (here, all) (did_nothing _ _);
  keeps = keeps_nothing _ _ ok_inside;
  plan = c.requires.plan;
  home = refl;
  frame = refl;
  area = refl;
  rendered = c.requires.rendered;
  recorded = λ computed before. before;
}

pub returns-in_err-render_row-clause-did : goal.returns-in_err-render_row-clause-did
returns-in_err-render_row-clause-did g c = λ to all files e next.
    let its_rows : section_rows c.args.from to c.args.s ≡ range_with_len (c.args.from + c.args.s * SECTION_ROWS) c.min-count.result =
    section_rows_are c.args.from to c.args.s _ all
    ∙ (ap (λ n. range_with_len (c.args.from + c.args.s * SECTION_ROWS) (min SECTION_ROWS (n - c.args.s * SECTION_ROWS))) (sym c.rows.ensures)
    ∙ ap (range_with_len (c.args.from + c.args.s * SECTION_ROWS)) (sym c.min-count.ensures)) in
    let p = err_from_is_err_and c.from_residual.result c.from_residual.ensures.1 in
    rw (p.1, p.2, its_rows)
    (stopped_memory _ _ _ _ (c.loop-i.invariant.did files e next))

pub returns-in_err-render_row-clause-keeps : goal.returns-in_err-render_row-clause-keeps
returns-in_err-render_row-clause-keeps g c =
    let p = err_from_is_err_and c.from_residual.result c.from_residual.ensures.1 in
    rw (p.1, p.2) (keeps_memory _ _ c.loop-i.invariant.keeps)

pub returns-in_err-place_row-clause-did : goal.returns-in_err-place_row-clause-did
returns-in_err-place_row-clause-did g c = λ to all files e next.
    let its_rows : section_rows c.args.from to c.args.s ≡ range_with_len (c.args.from + c.args.s * SECTION_ROWS) c.min-count.result =
    section_rows_are c.args.from to c.args.s _ all
    ∙ (ap (λ n. range_with_len (c.args.from + c.args.s * SECTION_ROWS) (min SECTION_ROWS (n - c.args.s * SECTION_ROWS))) (sym c.rows.ensures)
    ∙ ap (range_with_len (c.args.from + c.args.s * SECTION_ROWS)) (sym c.min-count.ensures)) in
    let p = err_from_is_err_and c.from_residual-in_err-place_row.result c.from_residual-in_err-place_row.ensures.1 in
    let scene = c.args.good.now in
    let base = c.args.base.now in
    let i = c.loop-i.i in
    let before = c.loop-i.invariant in
    let pictures = pictures_of files scene in
    let within : i < c.min-count.result = omega arith in
    let then = c.in_err-place_row.ensures.did files (before.keeps.left.files ∙ e) (rest scene pictures base c.args.from c.args.s c.min-count.result (i + 1) next) in
    rw (p.1, p.2, its_rows) (stopped_then _ _ _ _ _ _ (before.did files e next) before.keeps.left
    (rw (placing_next scene pictures base c.args.from c.args.s c.min-count.result i next within) then))

pub returns-in_err-place_row-clause-keeps : goal.returns-in_err-place_row-clause-keeps
returns-in_err-place_row-clause-keeps g c =
    let p = err_from_is_err_and c.from_residual-in_err-place_row.result c.from_residual-in_err-place_row.ensures.1 in
    rw (p.1, p.2) (keeps_then _ _ _ _ c.loop-i.invariant.keeps c.in_err-place_row.ensures.keeps)

pub loop-i-preserved : goal.loop-i-preserved
loop-i-preserved g c =
    let scene = c.args.good.now in
    let base = c.args.base.now in
    let i = c.loop-i.i in
    let before = c.loop-i.invariant in
    let within : i < c.min-count.result = omega arith in
    record {
      did = λ files e next.
          let pictures = pictures_of files scene in
          let then = c.in_ok-place_row.ensures.did files (before.keeps.left.files ∙ e) (rest scene pictures base c.args.from c.args.s c.min-count.result (i + 1) next) in
          did_then (before.did files e next) (rw (placing_next scene pictures base c.args.from c.args.s c.min-count.result i next within) then);
      keeps = keeps_then _ _ _ _ before.keeps c.in_ok-place_row.ensures.keeps;
      plan = c.in_ok-render_row.ensures.plan;
      home = c.in_ok-render_row.ensures.home ∙ before.home;
      frame = c.in_ok-render_row.ensures.frame ∙ before.frame;
      area = c.in_ok-render_row.ensures.area ∙ before.area;
      rendered = c.in_ok-render_row.ensures.rendered;
      recorded = λ computed recorded. c.in_ok-render_row.ensures.recorded computed (before.recorded computed recorded);
    }

pub a_section_is_rendered-requires-clause-rendered : goal.a_section_is_rendered-requires-clause-rendered
a_section_is_rendered-requires-clause-rendered g c =
    let same : c.loop-i.i ≡ rows_of_section c.args.p.now c.args.s = omega arith in
    subst (λ (n : ℕ). IsRendered c.args.p.now c.args.s n (g.D.Desk.view c.loop-i.desk)) same c.loop-i.invariant.rendered

pub returns-clause-did : goal.returns-clause-did
returns-clause-did g c = λ to all files e next.
    let its_rows : section_rows c.args.from to c.args.s ≡ range_with_len (c.args.from + c.args.s * SECTION_ROWS) c.min-count.result =
    section_rows_are c.args.from to c.args.s _ all
    ∙ (ap (λ n. range_with_len (c.args.from + c.args.s * SECTION_ROWS) (min SECTION_ROWS (n - c.args.s * SECTION_ROWS))) (sym c.rows.ensures)
    ∙ ap (range_with_len (c.args.from + c.args.s * SECTION_ROWS)) (sym c.min-count.ensures)) in
    let past : c.min-count.result ≤ c.loop-i.i = omega arith in
    rw its_rows
    (did_to _ _ _ _ _ (c.loop-i.invariant.did files e next)
    (placing_over c.args.good.now _ c.args.base.now (c.args.from + c.args.s * SECTION_ROWS) c.min-count.result c.loop-i.i next past))
