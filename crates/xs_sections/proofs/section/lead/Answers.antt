use Rattle.std.proofs.Common.{sym, ◌∙◌}
use Rattle.xs_sections.proofs.LeadLemmas.{all_held, none_gathered}
use Rattle.xs_sections.proofs.section.lead.Goals as goal

pub make_section-requires-clause-ready : goal.make_section-requires-clause-ready
make_section-requires-clause-ready g c =
    record { chief = c.requires.chief; alone = c.requires.alone; begun = c.requires.begun }

pub make_section-requires-clause-drawn : goal.make_section-requires-clause-drawn
make_section-requires-clause-drawn g c =
    all_held c.sections_need_the_drawings_of_their_aliases.ensures.needs c.args.p.now c.args.s c.args.d.now c.requires.drawn

pub returns-in-Ok-clause-number : goal.returns-in-Ok-clause-number
returns-in-Ok-clause-number g c = c.in-Ok.ensures.made.rendered.chief ∙ sym c.requires.chief

pub returns-in-Ok-clause-ungathered : goal.returns-in-Ok-clause-ungathered
returns-in-Ok-clause-ungathered g c =
    none_gathered c.args.p.now c.args.s (g.D.Desk.view c.make_section.new.desk) c.in-Ok.ensures.made.rendered
