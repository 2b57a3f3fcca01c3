use Rattle.std.proofs.Common.{None, ◌∙◌}
use Rattle.xs_word_desk.specs.Changes.{with_joined}
use Rattle.xs_word_desk.proofs.SumLemmas.{set_else}
use Rattle.xs_word_desk.proofs.Lifts.{claim_event, look_event, take_out_event, finish_event, abandon_event, turn_event, give_event, retire_event, clear_event}
use Rattle.xs_word_desk.proofs.SeatLifts.{split_quiet, join_quiet}
use Rattle.xs_word_desk.proofs.laws.each_step_is_its_event.Goals as goal

pub returns-clause-steps : goal.returns-clause-steps
returns-clause-steps c = λ told p n id k m there. record {
  claim = claim_event told p id k there n m;
  look = look_event told p id k there n m;
  take_out = take_out_event told p id k there n m;
  finish = λ next filled is. finish_event told p id k there n next m filled is;
  abandon = abandon_event told p id k there n m;
  turn = λ e. turn_event told p id k there n e m;
  give = λ e. give_event told p id k there n e m;
  retire = λ e. retire_event told p id k there n e m;
  clear = clear_event told p id k there n m;
}

pub returns-clause-split : goal.returns-clause-split
returns-clause-split c = λ p s id v me. split_quiet None p s id v me

pub returns-clause-join : goal.returns-clause-join
returns-clause-join c = λ p s id other v w me differ there rests.
    join_quiet None p s id other v w me (set_else s.views id other (with_joined v w) differ ∙ there) rests
