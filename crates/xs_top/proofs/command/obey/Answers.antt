use Rattle.std.proofs.Common.{refl}
use Rattle.std.proofs.lemmas.Result.{err_from_is_err_and}
use Rattle.xs_top.specs.Outcome.{commanding}
use Rattle.xs_top.proofs.Computed.{rendered_once, rendered_not}
use Rattle.xs_top.proofs.Parts.{did_nothing, stopped_whole}
use Rattle.xs_top.proofs.Commands.{unbuilt_heeded}
use Rattle.xs_top.proofs.LastLines.{command_line, undone_quietly}
use Rattle.xs_top.proofs.command.obey.Goals as goal

-- ---- a render

pub returns-in_ok-closed-in-Render-clause-did : goal.returns-in_ok-closed-in-Render-clause-did
unfolding commanding
returns-in_ok-closed-in-Render-clause-did g c = λ files e. rw c.in-Render.is (c.in_ok-closed-in-Render.ensures.did files e)

pub returns-in_ok-closed-in-Render-clause-once : goal.returns-in_ok-closed-in-Render-clause-once
returns-in_ok-closed-in-Render-clause-once g c =
    rw c.in-Render.is (rendered_once _ _ _ _ _ _ _ _ c.in_ok-closed-in-Render.ensures.once c.in_ok-closed-in-Render.ensures.twice)

pub returns-in_err-closed-in-Render-clause-did : goal.returns-in_err-closed-in-Render-clause-did
unfolding commanding
returns-in_err-closed-in-Render-clause-did g c = λ files e.
    let p = err_from_is_err_and c.from_residual.result c.from_residual.ensures.1 in
    rw (c.in-Render.is, p.1, p.2) (c.in_err-closed-in-Render.ensures.did files e)

pub returns-in_err-closed-in-Render-clause-once : goal.returns-in_err-closed-in-Render-clause-once
returns-in_err-closed-in-Render-clause-once g c =
    let p = err_from_is_err_and c.from_residual.result c.from_residual.ensures.1 in
    rw (p.1, p.2) (rendered_not _ _ _ _ c.in_err-closed-in-Render.ensures.fails c.in_err-closed-in-Render.ensures.twice)

pub returns-in_err-closed-in-Render-clause-undone : goal.returns-in_err-closed-in-Render-clause-undone
returns-in_err-closed-in-Render-clause-undone g c =
    let p = err_from_is_err_and c.from_residual.result c.from_residual.ensures.1 in
    rw (p.1, p.2) (undone_quietly (λ files. commanding files c.args.command.now) (λ files. command_line files c.args.command.now)
    (g.O.Outside.view c.args.outside.now).seen (g.O.Outside.view c.render.new.outside).seen _ c.in_err-closed-in-Render.ensures.quiet)

-- ---- a scene that is shown

pub returns-in_ok-show_scene-in-Show-clause-did : goal.returns-in_ok-show_scene-in-Show-clause-did
unfolding commanding
returns-in_ok-show_scene-in-Show-clause-did g c = λ files e. rw c.in-Show.is (c.in_ok-show_scene-in-Show.ensures.did files e)

pub returns-in_err-show_scene-in-Show-clause-did : goal.returns-in_err-show_scene-in-Show-clause-did
unfolding commanding
returns-in_err-show_scene-in-Show-clause-did g c = λ files e.
    let p = err_from_is_err_and c.from_residual-in_err-show_scene-in-Show.result c.from_residual-in_err-show_scene-in-Show.ensures.1 in
    rw (c.in-Show.is, p.1, p.2) (c.in_err-show_scene-in-Show.ensures.did files e)

pub returns-in_err-show_scene-in-Show-clause-undone : goal.returns-in_err-show_scene-in-Show-clause-undone
returns-in_err-show_scene-in-Show-clause-undone g c =
    let p = err_from_is_err_and c.from_residual-in_err-show_scene-in-Show.result c.from_residual-in_err-show_scene-in-Show.ensures.1 in
    rw (p.1, p.2) (undone_quietly (λ files. commanding files c.args.command.now) (λ files. command_line files c.args.command.now)
    (g.O.Outside.view c.args.outside.now).seen (g.O.Outside.view c.show_scene.new.outside).seen _ c.in_err-show_scene-in-Show.ensures.quiet)

-- ---- a dry run

pub returns-in_ok-demand-in-Dry-clause-did : goal.returns-in_ok-demand-in-Dry-clause-did
unfolding commanding
returns-in_ok-demand-in-Dry-clause-did g c = λ files e. rw c.in-Dry.is (c.in_ok-demand-in-Dry.ensures.did files e)

pub returns-in_err-demand-in-Dry-clause-did : goal.returns-in_err-demand-in-Dry-clause-did
unfolding commanding
returns-in_err-demand-in-Dry-clause-did g c = λ files e.
    let p = err_from_is_err_and c.from_residual-in_err-demand-in-Dry.result c.from_residual-in_err-demand-in-Dry.ensures.1 in
    rw (c.in-Dry.is, p.1, p.2) (c.in_err-demand-in-Dry.ensures.did files e)

pub returns-in_err-demand-in-Dry-clause-undone : goal.returns-in_err-demand-in-Dry-clause-undone
unfolding commanding
returns-in_err-demand-in-Dry-clause-undone g c =
    let p = err_from_is_err_and c.from_residual-in_err-demand-in-Dry.result c.from_residual-in_err-demand-in-Dry.ensures.1 in
    rw (c.in-Dry.is, p.1, p.2) c.in_err-demand-in-Dry.ensures.undone

-- ---- commands that are not built yet

pub returns-in-Again-clause-did : goal.returns-in-Again-clause-did
unfolding commanding
returns-in-Again-clause-did g c = λ files e. rw c.in-Again.is (stopped_whole _ _ _ _ refl (did_nothing _ _))

pub returns-in-Again-clause-heeds : goal.returns-in-Again-clause-heeds
returns-in-Again-clause-heeds g c = rw c.in-Again.is (unbuilt_heeded _)

pub returns-in-Again-clause-quiet : goal.returns-in-Again-clause-quiet
returns-in-Again-clause-quiet g c = λ many silent. refl

pub returns-in-Again-clause-undone : goal.returns-in-Again-clause-undone
returns-in-Again-clause-undone g c = λ files told written notes memory. absurd cc
