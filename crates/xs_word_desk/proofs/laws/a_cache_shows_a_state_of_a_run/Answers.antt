use Rattle.std.proofs.Common.{◌∙◌, ap, sym, subst}
use Rattle.xs_core.specs.Counts.{one_if}
use Rattle.xs_core.specs.Kept.{Kept}
use Rattle.xs_core.specs.States.{World, phase_of, read_of, is_started, is_ready, is_lost, is_served}
use Rattle.xs_word_desk.proofs.laws.a_cache_shows_a_state_of_a_run.Goals as goal

pub returns-clause-kept : goal.returns-clause-kept
returns-clause-kept c = λ told p s traced.
    subst (Kept p) (sym traced.shows) (c.runs_keep_their_states.ensures p traced.board.plan traced.events traced.ran)

pub returns-clause-once : goal.returns-clause-once
returns-clause-once c = λ told p s traced.
    let once = c.each_thing_happens_once.ensures in (
      traced.events,
      traced.ran,
      traced.shows,
      λ k. once.claims p traced.events traced.ran k ∙ ap (λ (w : World). one_if (is_started (phase_of w k))) (sym traced.shows),
      λ k. once.finishes p traced.events traced.ran k ∙ ap (λ (w : World). one_if (is_ready (phase_of w k))) (sym traced.shows),
      λ k. once.abandons p traced.events traced.ran k ∙ ap (λ (w : World). one_if (is_lost (phase_of w k))) (sym traced.shows),
      λ e. once.retires p traced.events traced.ran e ∙ ap (λ (w : World). one_if (is_served (read_of w e))) (sym traced.shows),
    )
