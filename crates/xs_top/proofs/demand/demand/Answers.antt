use Rattle.std.proofs.Common.{Err, ap}
use Rattle.std.proofs.lemmas.Result.{err_from_is_err_and}
use Rattle.xs_top.specs.Outcome.{demanding, demanding_scene}
use Rattle.xs_top.proofs.Parts.{stopped_then, runs_then, leaves_then, quiet_then}
use Rattle.xs_top.proofs.Writing.{writes_inside, writes_quiet}
use Rattle.xs_top.proofs.LastLines.{demanding_line_there, undone_quietly}
use Rattle.xs_top.proofs.Demanding.{plan_stopped, plan_leaves, plan_inside, demand_run, demand_undone}
use Rattle.xs_top.proofs.demand.demand.Goals as goal

pub returns-in_err-good-clause-did : goal.returns-in_err-good-clause-did
unfolding demanding
returns-in_err-good-clause-did g c = λ files e.
    let p = err_from_is_err_and c.from_residual.result c.from_residual.ensures.1 in
    rw (p.1, p.2) (c.in_err-good.ensures.did files e (demanding_scene c.args.from c.args.to))

pub returns-in_err-good-clause-quiet : goal.returns-in_err-good-clause-quiet
returns-in_err-good-clause-quiet g c = λ many silent. c.in_err-good.ensures.keeps.notes

pub returns-in_err-good-clause-undone : goal.returns-in_err-good-clause-undone
returns-in_err-good-clause-undone g c =
    undone_quietly (λ files. demanding files c.args.scene.now c.args.from c.args.to)
    (λ files. demanding_line_there files c.args.scene.now c.args.from c.args.to)
    (g.O.Outside.view c.args.outside.now).seen (g.O.Outside.view c.load_scene.new.outside).seen _ (λ silent. c.in_err-good.ensures.keeps.notes)

pub returns-in_err-plan-clause-did : goal.returns-in_err-plan-clause-did
unfolding demanding
returns-in_err-plan-clause-did g c = λ files e.
    let p = err_from_is_err_and c.from_residual-in_err-plan.result c.from_residual-in_err-plan.ensures.1 in
    let loaded = c.in_ok-good.ensures.did files e (demanding_scene c.args.from c.args.to) in
    rw (p.1, p.2)
    (stopped_then _ _ _ _ _ _ loaded c.in_ok-good.ensures.keeps.left
    (plan_stopped c.in_ok-good.good c.args.from c.args.to _ (g.O.Outside.view c.load_scene.new.outside).seen c.in_err-plan.field-0.0 (λ what limit is. c.in_err-plan.ensures.limited what limit (ap Err is))))

pub returns-in_err-plan-clause-leaves : goal.returns-in_err-plan-clause-leaves
returns-in_err-plan-clause-leaves g c =
    let p = err_from_is_err_and c.from_residual-in_err-plan.result c.from_residual-in_err-plan.ensures.1 in
    rw (p.1, p.2) (leaves_then _ _ _ _ c.in_ok-good.ensures.keeps.left (plan_leaves (g.O.Outside.view c.load_scene.new.outside).seen c.in_err-plan.field-0.0))

pub returns-in_err-plan-clause-quiet : goal.returns-in_err-plan-clause-quiet
returns-in_err-plan-clause-quiet g c = λ many silent. c.in_ok-good.ensures.keeps.notes

pub returns-in_err-plan-clause-undone : goal.returns-in_err-plan-clause-undone
returns-in_err-plan-clause-undone g c =
    undone_quietly (λ files. demanding files c.args.scene.now c.args.from c.args.to)
    (λ files. demanding_line_there files c.args.scene.now c.args.from c.args.to)
    (g.O.Outside.view c.args.outside.now).seen (g.O.Outside.view c.load_scene.new.outside).seen _ (λ silent. c.in_ok-good.ensures.keeps.notes)

pub returns-in_err-plan-clause-words : goal.returns-in_err-plan-clause-words
returns-in_err-plan-clause-words g c =
    let p = err_from_is_err_and c.from_residual-in_err-plan.result c.from_residual-in_err-plan.ensures.1 in
    rw (p.1, p.2) (plan_inside c.in_err-plan.field-0.0)

pub returns-clause-did : goal.returns-clause-did
unfolding demanding
returns-clause-did g c = λ files e.
    let loaded = c.in_ok-good.ensures.did files e (demanding_scene c.args.from c.args.to) in
    runs_then _ _ _ _ _ _ _ loaded c.in_ok-good.ensures.keeps.left
    (demand_run c.a_shown_plan_is_the_plan.ensures c.in_ok-good.good c.args.from c.args.to c.in_ok-plan.plan
    c.in_ok-plan.ensures.shows c.in_ok-plan.ensures.drawings c.in_ok-plan.ensures.none (g.O.Outside.view c.load_scene.new.outside).seen (g.O.Outside.view c.note_plan.new.outside).seen _ c.note_plan.ensures.wrote)

pub returns-clause-leaves : goal.returns-clause-leaves
returns-clause-leaves g c = leaves_then _ _ _ _ c.in_ok-good.ensures.keeps.left c.note_plan.ensures.leaves

pub returns-clause-quiet : goal.returns-clause-quiet
returns-clause-quiet g c = λ many. quiet_then (g.O.Outside.view c.args.outside.now).seen (g.O.Outside.view c.load_scene.new.outside).seen (g.O.Outside.view c.note_plan.new.outside).seen _
    c.in_ok-good.ensures.keeps.notes (writes_quiet (Unit {0}) _ (g.O.Outside.view c.load_scene.new.outside).seen (g.O.Outside.view c.note_plan.new.outside).seen _ c.note_plan.ensures.wrote many)

pub returns-clause-undone : goal.returns-clause-undone
unfolding demanding
returns-clause-undone g c = λ files e written told memory ends whole.
    demand_undone c.a_shown_plan_is_the_plan.ensures c.in_ok-good.good c.args.from c.args.to c.in_ok-plan.plan
    c.in_ok-plan.ensures.shows c.in_ok-plan.ensures.drawings c.in_ok-plan.ensures.none
    (demanding files c.args.scene.now c.args.from c.args.to) (g.O.Outside.view c.args.outside.now).seen (g.O.Outside.view c.load_scene.new.outside).seen (g.O.Outside.view c.note_plan.new.outside).seen _
    (c.in_ok-good.ensures.did files e (demanding_scene c.args.from c.args.to)) c.in_ok-good.ensures.keeps.notes c.note_plan.ensures.wrote
    written told memory whole

pub returns-clause-words : goal.returns-clause-words
returns-clause-words g c = writes_inside (Unit {0}) _ (g.O.Outside.view c.load_scene.new.outside).seen (g.O.Outside.view c.note_plan.new.outside).seen _ c.note_plan.ensures.wrote
