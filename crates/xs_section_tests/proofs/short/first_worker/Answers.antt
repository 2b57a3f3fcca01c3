use Rattle.std.proofs.Common.{ap, ◌∙◌}
use Rattle.xs_worker.specs.Advances.{Standing, fresh_worker}
use Rattle.xs_worker.specs.Sections.{section_roots}
use Rattle.xs_section_tests.proofs.ShortLemmas.{stands_first}
use Rattle.xs_section_tests.proofs.short.first_worker.Goals as goal

pub returns-clause-targets : goal.returns-clause-targets
returns-clause-targets g c = ap (λ (x : Standing). x.targets) c.in_ok-worker.ensures ∙ c.in_ok-section_targets.ensures

pub returns-clause-stands : goal.returns-clause-stands
returns-clause-stands g c =
    let p = c.args.p.now in
    let v = g.D.Desk.view c.args.desk.now in
    stands_first p (g.D.Desk.plan c.args.desk.now) 0 c.in_ok-worker.worker v c.requires.plan
    (c.in_ok-worker.ensures ∙ ap fresh_worker c.in_ok-section_targets.ensures) c.requires.begun c.look_over.ensures
    (c.new_workers_stand_where_nothing_is_claimed.ensures.begun p c.aliases.ensures.valid 0 (section_roots p 0) v)
    (c.targets_of_a_section_are_its_roots.ensures p 0)
