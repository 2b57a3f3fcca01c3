use Rattle.std.proofs.Common.{[], ap, ◌∙◌}
use Rattle.xs_worker.specs.Advances.{Standing}
use Rattle.xs_render.specs.Making.{MakesPart}
use Rattle.xs_render.proofs.LeadLemmas.{its_drawings, led, makes_section, makes_part, makes_nothing, on_err}
use Rattle.xs_render.proofs.section.make_section.Goals as goal

pub advance-requires-clause-drawn : goal.advance-requires-clause-drawn
advance-requires-clause-drawn g c =
    let p = c.args.p.now in
    let s = c.args.s in
    its_drawings c.sections_need_the_drawings_of_their_aliases.ensures.needs c.what_is_won_in_a_section_comes_first_in_it.ensures
    p (g.D.Desk.plan c.args.desk.now) s c.in_ok-worker.worker (g.D.Desk.view c.args.desk.now) c.args.drawings.now
    c.requires.plan c.aliases.ensures.valid c.look_over.ensures
    (ap (λ (x : Standing). x.targets) c.in_ok-worker.ensures ∙ c.in_ok-section_targets.ensures)
    (ap (λ (x : Standing). x.stack) c.in_ok-worker.ensures)
    (c.targets_of_a_section_are_its_roots.ensures p s) c.requires.ready.begun c.requires.drawn

pub returns-in-Ok-Finished-clause-made : goal.returns-in-Ok-Finished-clause-made
returns-in-Ok-Finished-clause-made g c =
    let p = c.args.p.now in
    let s = c.args.s in
    let st = c.in_ok-worker.worker in
    let v = g.D.Desk.view c.args.desk.now in
    let w = g.D.Desk.view c.advance.new.desk in
    let b = g.B.Bench.made c.args.bench.now in
    let d = g.B.Bench.made c.advance.new.bench in
    let begun = c.requires.ready.begun in
    let l = led p (g.D.Desk.plan c.args.desk.now) (g.D.Desk.plan c.advance.new.desk) s st c.advance.new.self v w b d c.in-Ok-Finished.field-0
    c.requires.plan c.in-Ok-Finished.ensures.plan c.look_over.ensures c.look_over-in-Ok-Finished.ensures c.requires.ready.chief c.requires.ready.alone
    (ap (λ (x : Standing). x.targets) c.in_ok-worker.ensures ∙ c.in_ok-section_targets.ensures)
    (c.targets_of_a_section_are_its_roots.ensures p s) c.in-Ok-Finished.field-0-is c.in-Ok-Finished.ensures.told
    (λ ok done. c.workers_that_are_alone_finish.ensures.settled p st c.advance.new.self v w b d ok begun.settled done
    c.in-Ok-Finished.ensures.stands) in
    let gained = c.workers_gain_for_their_targets.ensures.gained p st.targets v w b d [] [] l.grew in
    let law = c.a_section_is_done_when_its_targets_are_ready.ensures in
    let valid = c.aliases.ensures.valid in
    makes_section p s st.targets v w b d l
    (law.done p valid s st.targets v w l.roots begun l.ok l.new_ok l.alone gained l.settled l.known)
    (law.ungathered p valid s st.targets v w begun l.new_ok gained)
    (law.made p valid s st.targets v w l.roots begun l.ok l.new_ok l.alone gained l.settled l.known)

pub returns-in_err-section_targets-clause-part : goal.returns-in_err-section_targets-clause-part
returns-in_err-section_targets-clause-part g c =
    let v = g.D.Desk.view c.args.desk.now in
    let b = g.B.Bench.made c.args.bench.now in
    on_err (MakesPart v v b b) (makes_nothing c.args.p.now (g.D.Desk.plan c.args.desk.now) v b c.requires.plan c.look_over.ensures)
    c.from_residual.result

pub returns-in_err-worker-clause-part : goal.returns-in_err-worker-clause-part
returns-in_err-worker-clause-part g c =
    let v = g.D.Desk.view c.args.desk.now in
    let b = g.B.Bench.made c.args.bench.now in
    on_err (MakesPart v v b b) (makes_nothing c.args.p.now (g.D.Desk.plan c.args.desk.now) v b c.requires.plan c.look_over.ensures)
    c.from_residual-in_err-worker.result

pub returns-clause-part : goal.returns-clause-part
returns-clause-part g c =
    makes_part c.args.p.now (g.D.Desk.plan c.advance.new.desk) c.in_ok-worker.worker c.advance.new.self
    (g.D.Desk.view c.args.desk.now) (g.D.Desk.view c.advance.new.desk) (g.B.Bench.made c.args.bench.now) (g.B.Bench.made c.advance.new.bench)
    c.in-Err.ensures.plan c.look_over-in-Err.ensures c.in-Err.ensures.told

pub returns-in-Ok-Finished-clause-home : goal.returns-in-Ok-Finished-clause-home
returns-in-Ok-Finished-clause-home g c = (rw c.in-Ok-Finished.field-0-is at c.in-Ok-Finished.ensures.told).grew.adds.home
