-- The chief has nothing in hand when it starts, and gets nothing that the seats still have in hand.
use Rattle.std.proofs.Common.{sym, subst}
use Rattle.xs_core.specs.Views.{DeskView}
use Rattle.xs_word_desk.specs.Desks.{desk_view}
use Rattle.xs_word_tests.specs.Hands.{IsFree}
use Rattle.xs_word_tests.proofs.HandLemmas.{has_nothing, free_fresh, free_left, free_joined, if_ok}
use Rattle.xs_word_tests.proofs.making.made_by_two.Goals as goal

pub join-requires-clause-settled : goal.join-requires-clause-settled
join-requires-clause-settled g c =
    let a = c.both_make-first.new.a in
    has_nothing (desk_view a.cache.now.table.shared.table_id a.seat.me.0) (if_ok c.both_make-first.result.0 c.in_ok-first.field-0
    (IsFree (desk_view a.cache.now.table.shared.table_id a.seat.me.0)) c.in_ok-first.was c.both_make-first.ensures.a_free)

pub join-requires-2-clause-settled : goal.join-requires-2-clause-settled
join-requires-2-clause-settled g c =
    let b = c.both_make-first.new.b in
    has_nothing (desk_view b.cache.now.table.shared.table_id b.seat.me.0) (if_ok c.both_make-first.result.1 c.in_ok-second.field-0
    (IsFree (desk_view b.cache.now.table.shared.table_id b.seat.me.0)) c.in_ok-second.was c.both_make-first.ensures.b_free)

pub show_all-requires-clause-free : goal.show_all-requires-clause-free
show_all-requires-clause-free g c =
    let a = c.both_make-first.new.a in
    let b = c.both_make-first.new.b in
    let a_free = if_ok c.both_make-first.result.0 c.in_ok-first.field-0
    (IsFree (desk_view a.cache.now.table.shared.table_id a.seat.me.0)) c.in_ok-first.was c.both_make-first.ensures.a_free in
    let b_free = if_ok c.both_make-first.result.1 c.in_ok-second.field-0
    (IsFree (desk_view b.cache.now.table.shared.table_id b.seat.me.0)) c.in_ok-second.was c.both_make-first.ensures.b_free in
    let starts = subst (λ (v : DeskView). IsFree v) (sym c.desk-chief.ensures.view) (free_fresh _ c.in_ok-cache.ensures.fresh) in
    let splits = free_left _ _ _ c.split-b.ensures.told (free_left _ _ _ c.split-a.ensures.told starts) in
    free_joined _ _ _ c.join-2.ensures.told (free_joined _ _ _ c.join.ensures.told splits a_free) b_free
