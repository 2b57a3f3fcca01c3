use Rattle.xs_sections.proofs.whole.render_section.Goals as goal

pub returns-in-Err-render_rows-clause-once : goal.returns-in-Err-render_rows-clause-once
returns-in-Err-render_rows-clause-once g c = (c.in-Ok.ensures.makes.recorded c.requires.recorded).once

pub returns-in-Err-clause-once : goal.returns-in-Err-clause-once
returns-in-Err-clause-once g c = c.in-Err.ensures.part.recorded c.requires.recorded
