use Rattle.std.proofs.Common.{ap, sym, subst, ◌∙◌}
use Rattle.xs_worker.specs.Advances.{Standing, StandsAt, fresh_worker}
use Rattle.xs_worker.specs.Sections.{section_roots}
use Rattle.xs_section_tests.proofs.ShortLemmas.{stands_again}
use Rattle.xs_section_tests.proofs.short.next_worker.Goals as goal

pub returns : goal.returns
returns g c = record {
  stands =
      subst (λ (w : Standing). StandsAt c.args.p.now w (g.D.Desk.view c.args.desk.now))
      (sym (c.in_ok-worker.ensures ∙ ap fresh_worker c.in_ok-section_targets.ensures))
      (stands_again c.args.p.now c.args.first.now (g.D.Desk.view c.args.desk.now) (section_roots c.args.p.now 0) c.requires.targets
      c.requires.idle c.requires.stands c.new_workers_stand_where_nothing_is_claimed.ensures.idle);
}
