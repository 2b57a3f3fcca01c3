-- The chief has nothing in hand when it starts, and gets nothing that the seats still have in hand.
use Rattle.std.proofs.Common.{sym, subst}
use Rattle.xs_core.specs.Views.{DeskView}
use Rattle.xs_word_tests.specs.Hands.{IsFree}
use Rattle.xs_word_tests.proofs.HandLemmas.{has_nothing, free_fresh, free_left, free_joined}
use Rattle.xs_word_tests.proofs.rows.makes_both.Goals as goal

pub join-requires-clause-settled : goal.join-requires-clause-settled
join-requires-clause-settled g c = has_nothing _ c.in_ok-second.ensures.free

pub join-requires-2-clause-settled : goal.join-requires-2-clause-settled
join-requires-2-clause-settled g c = has_nothing _ c.in_ok-first.ensures.free.1

pub shows_the_row-requires-clause-free : goal.shows_the_row-requires-clause-free
shows_the_row-requires-clause-free g c =
    let starts = subst (λ (v : DeskView). IsFree v) (sym c.desk-chief.ensures.view) (free_fresh _ c.in_ok-cache.ensures.fresh) in
    let splits = free_left _ _ _ c.split-b.ensures.told (free_left _ _ _ c.split-a.ensures.told starts) in
    free_joined _ _ _ c.join-2.ensures.told
    (free_joined _ _ _ c.join.ensures.told splits c.in_ok-second.ensures.free) c.in_ok-first.ensures.free.1
