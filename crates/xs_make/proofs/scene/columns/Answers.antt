use Rattle.std.proofs.Common.{◌≡◌, ◌+◌, ◌*◌, Some, None, ap, ◌∙◌, arith}
use Rattle.xs_make.specs.Draws.{state_after}
use Rattle.xs_make.specs.Scenes.{column_from, exposures_of}
use Rattle.xs_make.proofs.Drawn.{state_after_more}
use Rattle.xs_make.proofs.scene.columns.Goals as goal

pub returns : goal.returns
returns c =
    let x = c.args.draws.now in
    let rows = c.args.rows in
    let each = exposures_of rows in
    let twice : each + each ≡ 2 * each = omega arith in
    let state = c.in_ok-second.ensures.state ∙ ap (λ s. state_after s each) c.in_ok-first.ensures.state ∙ state_after_more x each each
    ∙ ap (state_after x) twice in
    let second : c.in_ok-second.second ≡ column_from (state_after x each) rows 2 (Some 0) =
    c.in_ok-second.ensures.column ∙ ap (λ s. column_from s rows 2 (Some 0)) c.in_ok-first.ensures.state in
    let third : c.in_ok-third.third ≡ column_from (state_after x (2 * each)) rows 3 None =
    c.in_ok-third.ensures.column ∙ ap (λ s. column_from s rows 3 None) state in
    record { columns = rw (c.in_ok-vec.ensures.items, c.in_ok-held.ensures, c.in_ok-first.ensures.column, second, third) }
