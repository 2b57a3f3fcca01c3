use Rattle.std.proofs.Common.{[], ◌∷◌, length, refl}
use Rattle.std.proofs.lemmas.Result.{err_from_is_err_and}
use Rattle.xs_lines.specs.Lines.{alias_lines}
use Rattle.xs_top.specs.Demand.{totals_line}
use Rattle.xs_top.proofs.Writing.{wants_more, writes_longer, writes_then}
use Rattle.xs_top.proofs.demand.note_plan.Goals as goal

pub returns-in_err-totals-clause-wrote : goal.returns-in_err-totals-clause-wrote
returns-in_err-totals-clause-wrote g c =
    let p = err_from_is_err_and c.from_residual.result c.from_residual.ensures.1 in
    let plan = c.args.plan.now in
    rw (p.1, p.2) (wants_more (alias_lines plan 0 (length plan.entries)) (totals_line plan) (g.O.Outside.view c.args.outside.now).seen)

pub returns-in_err-note_aliases-clause-wrote : goal.returns-in_err-note_aliases-clause-wrote
returns-in_err-note_aliases-clause-wrote g c =
    let p = err_from_is_err_and c.from_residual-in_err-note_aliases.result c.from_residual-in_err-note_aliases.ensures.1 in
    let plan = c.args.plan.now in
    rw (p.1, p.2)
    (writes_longer (Unit {0}) (alias_lines plan 0 (length plan.entries)) (totals_line plan ∷ []) (g.O.Outside.view c.args.outside.now).seen
    (g.O.Outside.view c.note_aliases.new.outside).seen _ c.in_err-note_aliases.ensures.wrote)

pub returns-clause-wrote : goal.returns-clause-wrote
returns-clause-wrote g c =
    let plan = c.args.plan.now in
    let first = c.in_ok-note_aliases.ensures in
    writes_then (Unit {0}) (alias_lines plan 0 (length plan.entries)) (totals_line plan ∷ []) (g.O.Outside.view c.args.outside.now).seen
    (g.O.Outside.view c.note_aliases.new.outside).seen (g.O.Outside.view c.note.new.self).seen _ first.wrote (first.leaves.outputs refl).notes
    (rw (c.as_bytes.ensures.value, c.in_ok-totals.ensures) at c.note.ensures.wrote)
