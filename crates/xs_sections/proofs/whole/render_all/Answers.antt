use Rattle.std.proofs.Common.{◌≡◌, ℕ, List, refl, sym, subst, ◌∙◌, arith}
use Rattle.xs_plan.specs.Sections.{sections_in}
use Rattle.xs_render.specs.Progress.{IsReady}
use Rattle.xs_render.specs.Computed.{IsRecorded}
use Rattle.xs_sections.proofs.whole.render_all.Goals as goal

pub loop-s-init : goal.loop-s-init
loop-s-init g c = record {
  plan = c.requires.plan;
  frame = refl;
  ready = c.nothing_is_rendered_yet.ensures.ready;
  recorded = subst (λ (l : List ℕ). IsRecorded (g.D.Desk.view c.args.desk.now) l) (sym c.requires.new)
      c.nothing_is_rendered_yet.ensures.recorded;
}

pub loop-s-preserved : goal.loop-s-preserved
loop-s-preserved g c = record {
  plan = c.in-Ok.ensures.plan;
  frame = c.in-Ok.ensures.frame ∙ c.loop-s.invariant.frame;
  ready = c.in-Ok.ensures.ready;
  recorded = c.in-Ok.ensures.recorded;
}

pub all_is_rendered-requires-clause-ready : goal.all_is_rendered-requires-clause-ready
all_is_rendered-requires-clause-ready g c =
    let same : c.loop-s.s ≡ sections_in c.args.p.now = omega arith in
    subst (λ (n : ℕ). IsReady c.args.p.now n (g.D.Desk.view c.loop-s.desk)) same c.loop-s.invariant.ready

pub returns-clause-each : goal.returns-clause-each
returns-clause-each g c =
    c.all_is_rendered.ensures.computed (g.B.Bench.made c.loop-s.bench) c.loop-s.invariant.recorded
