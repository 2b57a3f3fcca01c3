use Rattle.std.proofs.Common.{◌≡◌, ℕ, refl, subst, ◌∙◌, arith}
use Rattle.xs_render.specs.Progress.{IsRendered, rows_of_section}
use Rattle.xs_sections.proofs.whole.render_rows.Goals as goal

pub loop-i-init : goal.loop-i-init
loop-i-init g c = record {
  plan = c.requires.plan;
  frame = refl;
  rendered = c.requires.rendered;
  recorded = λ computed before. before;
}

pub loop-i-preserved : goal.loop-i-preserved
loop-i-preserved g c = record {
  plan = c.in-Ok.ensures.plan;
  frame = c.in-Ok.ensures.frame ∙ c.loop-i.invariant.frame;
  rendered = c.in-Ok.ensures.rendered;
  recorded = λ computed before. c.in-Ok.ensures.recorded computed (c.loop-i.invariant.recorded computed before);
}

pub a_section_is_rendered-requires-clause-rendered : goal.a_section_is_rendered-requires-clause-rendered
a_section_is_rendered-requires-clause-rendered g c =
    let same : c.loop-i.i ≡ rows_of_section c.args.p.now c.args.s = omega arith in
    subst (λ (n : ℕ). IsRendered c.args.p.now c.args.s n (g.D.Desk.view c.loop-i.desk)) same c.loop-i.invariant.rendered
