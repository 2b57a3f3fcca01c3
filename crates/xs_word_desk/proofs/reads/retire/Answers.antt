use Rattle.std.proofs.Common.{rules, ◌≡◌, ◌≢◌, ◌/◌, ◌-◌, ◌∙◌, ℕ, List, [], None, ap, sym, arith}
use Rattle.xs_core.specs.Views.{LeftOpen}
use Rattle.xs_word_desk.specs.Changes.{with_met, with_served, with_cleared}
use Rattle.xs_word_desk.specs.Plays.{At}
use Rattle.xs_word_desk.specs.Rule.{Slot}
use Rattle.xs_word_desk.proofs.reads.retire.Goals as goal

pub returns-then-left-eq0-clause-told : goal.returns-then-left-eq0-clause-told
returns-then-left-eq0-clause-told g c =
    let none_left : c.retire_as-word.result / 16 - 1 ≡ 0 = search rules in
    let last = c.retire_as-word.ensures.told.0 (omega (arith, none_left, c.retire_as-word.ensures.told.2)) in
    c.let_go.ensures.told ∙ ap (λ (m : At). (with_cleared m.0, [])) last.1
    ∙ ap (λ (n : ℕ). (with_met (with_served c.args.seat.now.me.0 c.args.e None) c.args.k (LeftOpen n), [])) (sym none_left)

pub returns-else-left-eq0-clause-told : goal.returns-else-left-eq0-clause-told
returns-else-left-eq0-clause-told g c =
    let some_left : c.retire_as-word.result / 16 - 1 ≢ 0 = search rules in
    let more = c.retire_as-word.ensures.told.1 (λ last. some_left (omega (arith, last))) in
    more
    ∙ ap (λ (l : List (ℕ × Slot)). (
      with_met (with_served c.args.seat.now.me.0 c.args.e None) c.args.k
          (LeftOpen (c.retire_as-word.result / 16 - 1)),
      l,
    )) c.requires.empty
