use Rattle.std.proofs.Common.{map, string_bytes, Ok, ap, ◌∙◌}
use Rattle.std.proofs.lemmas.Result.{err_from_is_err_and}
use Rattle.xs_top.proofs.Computed.{nothing_once, words_fail, rendered_not, making_once, command_once, command_idle}
use Rattle.xs_top.proofs.Commands.{not_made}
use Rattle.xs_top.proofs.Listings.{TakenOnce}
use Rattle.xs_top.proofs.Showing.{ran_not, ran_over, ran_making}
use Rattle.xs_top.proofs.command.try_run.Goals as goal

pub returns-in_err-command-clause-ran : goal.returns-in_err-command-clause-ran
returns-in_err-command-clause-ran g c =
    let law = c.each_number_is_taken_once.ensures in
    let once : TakenOnce = record { all = law.all_of_the_first_known; new = law.one_after_another } in
    let p = err_from_is_err_and c.from_residual.result c.from_residual.ensures.1 in
    rw (p.1, p.2) (ran_not once _ _ _ (rw c.as_slice.ensures.value at c.in_err-command.ensures.reading))

pub returns-in_err-command-clause-once : goal.returns-in_err-command-clause-once
returns-in_err-command-clause-once g c =
    let p = err_from_is_err_and c.from_residual.result c.from_residual.ensures.1 in
    rw (p.1, p.2) (nothing_once _ _ _ _ c.requires.unused (words_fail _))

pub returns-clause-ran : goal.returns-clause-ran
returns-clause-ran g c =
    let law = c.each_number_is_taken_once.ensures in
    let once : TakenOnce = record { all = law.all_of_the_first_known; new = law.one_after_another } in
    ran_over once _ c.in_ok-command.command _ _ _ (rw c.as_slice.ensures.value at c.in_ok-command.ensures.reading) (not_made c.in_ok-command.command c.in_default.not-Make) c.obey_over.ensures.ran

pub returns-clause-once : goal.returns-clause-once
returns-clause-once g c = command_once _ _ _ _ _ _ (rw c.as_slice.ensures.value at c.in_ok-command.ensures.reading) c.obey_over.ensures.once

pub returns-clause-idle : goal.returns-clause-idle
returns-clause-idle g c = command_idle _ _ (rw c.as_slice.ensures.value at c.in_ok-command.ensures.reading) c.obey_over.ensures.idle

pub returns-in-Make-clause-ran : goal.returns-in-Make-clause-ran
returns-in-Make-clause-ran g c =
    let law = c.each_number_is_taken_once.ensures in
    let once : TakenOnce = record { all = law.all_of_the_first_known; new = law.one_after_another } in
    ran_making once _ c.in-Make.seed c.in-Make.rows c.in-Make.workers _ _ _
    (rw c.as_slice.ensures.value at c.in_ok-command.ensures.reading ∙ ap Ok c.in-Make.is) (c.in_ok-closed.ensures.ran _ _ _)

pub returns-in-Make-clause-once : goal.returns-in-Make-clause-once
returns-in-Make-clause-once g c =
    command_once _ _ _ _ _ _ (rw c.as_slice.ensures.value at c.in_ok-command.ensures.reading ∙ ap Ok c.in-Make.is)
    (making_once _ c.in-Make.seed c.in-Make.rows c.in-Make.workers _ _ c.in_ok-closed.ensures.once c.in_ok-closed.ensures.twice)

pub returns-in_err-closed-clause-ran : goal.returns-in_err-closed-clause-ran
returns-in_err-closed-clause-ran g c =
    let p = err_from_is_err_and c.from_residual-in_err-closed.result c.from_residual-in_err-closed.ensures.1 in
    let law = c.each_number_is_taken_once.ensures in
    let once : TakenOnce = record { all = law.all_of_the_first_known; new = law.one_after_another } in
    rw (p.1, p.2)
    (ran_making once _ c.in-Make.seed c.in-Make.rows c.in-Make.workers _ _ _
    (rw c.as_slice.ensures.value at c.in_ok-command.ensures.reading ∙ ap Ok c.in-Make.is) (c.in_err-closed.ensures.ran _ _ _))
