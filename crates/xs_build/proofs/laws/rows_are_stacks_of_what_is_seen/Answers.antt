use Rattle.xs_build.proofs.StackLemmas.{composed-stacked, seen-seen_down, renamed-seen}
use Rattle.xs_build.proofs.laws.rows_are_stacks_of_what_is_seen.Goals as goal

pub returns : goal.returns
returns c = record { composed = composed-stacked; seen = seen-seen_down; named = renamed-seen }
