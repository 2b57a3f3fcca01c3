use Rattle.std.proofs.Common.{◌≡◌, ◌≤◌, ◌<◌, ◌∙◌, ap, arith}
use Rattle.xs_scene.specs.Records.{ExposureRecord}
use Rattle.xs_index.proofs.Chosen.{cell_found, cell_gap, cell_none}
use Rattle.xs_index.proofs.search.seen_in.Goals as goal

pub returns-then-row-exposure : goal.returns-then-row-exposure
returns-then-row-exposure c column moved apart =
    let e = c.in-Some.exposure in
    let to : c.exposure.inside.to ≡ e.to = ap (λ (x : ExposureRecord). x.to) c.exposure.view_is in
    let here : c.args.row ≤ e.to = omega (arith, c.if-row-exposure.true) in
    c.seen_at.ensures ∙ cell_found column c.args.cells.now c.args.row moved apart
    (c.cells_are_chosen_by_row.ensures.shown column c.args.row) e c.in-Some.ensures here

pub returns-else-row-exposure : goal.returns-else-row-exposure
returns-else-row-exposure c column moved apart =
    let e = c.in-Some.exposure in
    let from : c.exposure.inside.from ≡ e.from = ap (λ (x : ExposureRecord). x.from) c.exposure.view_is in
    let to : c.exposure.inside.to ≡ e.to = ap (λ (x : ExposureRecord). x.to) c.exposure.view_is in
    let rows : e.from ≤ e.to = omega (arith, c.exposure.invariant.rows) in
    let past : e.to < c.args.row = omega (arith, c.if-row-exposure.false) in
    cell_gap column c.args.cells.now c.args.row moved apart (c.cells_are_chosen_by_row.ensures.gap column c.args.row) e c.in-Some.ensures rows past

pub returns-in_default : goal.returns-in_default
returns-in_default c column moved apart =
    cell_none column c.args.cells.now c.args.row moved apart (c.cells_are_chosen_by_row.ensures.gap column c.args.row) c.in_default.ensures
