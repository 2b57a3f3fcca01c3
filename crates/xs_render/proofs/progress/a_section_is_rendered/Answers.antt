use Rattle.xs_render.proofs.RowLemmas.{gathered_all}
use Rattle.xs_render.proofs.progress.a_section_is_rendered.Goals as goal

pub returns-clause-ready : goal.returns-clause-ready
returns-clause-ready g c =
    let v = g.D.Desk.view c.args.desk.now in
    record {
      chief = c.requires.rendered.chief;
      alone = c.requires.rendered.alone;
      begun = c.what_is_held_after_a_section_is_read_later.ensures.begun c.args.p.now c.aliases.ensures.valid c.args.s v
          c.requires.rendered.done (gathered_all c.args.p.now c.args.s v c.requires.rendered);
    }

pub returns-clause-held : goal.returns-clause-held
returns-clause-held g c = λ k.
    let v = g.D.Desk.view c.args.desk.now in
    c.what_is_held_after_a_section_is_read_later.ensures.held c.args.p.now c.aliases.ensures.valid c.args.s v k
    c.requires.rendered.done (gathered_all c.args.p.now c.args.s v c.requires.rendered)
