use Rattle.std.proofs.Common.{sym, subst, ◌∙◌}
use Rattle.xs_plan.specs.Record.{PlanRecord}
use Rattle.xs_frames.specs.Frames.{IsPainted}
use Rattle.xs_render.proofs.row.row_bytes.Goals as goal

pub returns-clause-scene : goal.returns-clause-scene
returns-clause-scene g c = λ s pictures from rows tells are shows there same.
    let image = c.args.frame.now.image in
    c.bytes.ensures.file
    ∙ c.frames_by_demand_are_those_of_the_scene.ensures s pictures from rows c.args.row c.args.p.now g.K.Film.pictures image are shows there
    (record {
      area = same;
      painted = subst (λ (q : PlanRecord). IsPainted q c.args.frame.now.image) (sym c.requires.plan) c.bytes.ensures.painted;
      whole = c.bytes.ensures.whole;
    })
    tells c.requires.shows
