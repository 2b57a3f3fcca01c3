use Rattle.std.proofs.Common.{rules, ◌≡◌, ◌∷◌, ◌/◌, ◌%◌, ◌∙◌, ℕ, List, Some, ap}
use Rattle.xs_word_desk.specs.Plays.{At}
use Rattle.xs_word_desk.specs.Rule.{Slot}
use Rattle.xs_word_desk.proofs.reads.read.Goals as goal

pub share_in_turn-requires-clause-turn : goal.share_in_turn-requires-clause-turn
share_in_turn-requires-clause-turn g c =
    let clear : c.turn_as-word.result / 4 % 2 ≡ 0 = search rules in
    let told = c.turn_as-word.ensures.told.0 clear in
    (c.args.e, ap (λ (m : At). m.0.turn) told.1, c.requires.may.source)

pub share_in_turn-requires-clause-out : goal.share_in_turn-requires-clause-out
share_in_turn-requires-clause-out g c =
    let clear : c.turn_as-word.result / 4 % 2 ≡ 0 = search rules in
    let told = c.turn_as-word.ensures.told.0 clear in
    (told.0, ap (λ (m : At). m.1) told.1 ∙ ap (λ (l : List (ℕ × Slot)). (c.args.k, Some told.0) ∷ l) c.requires.empty, told.2)
