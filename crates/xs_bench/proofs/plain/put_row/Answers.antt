use Rattle.std.proofs.Common.{◌≡◌, ◌<◌, ◌/◌, length, ap, ◌∙◌, subst, arith}
use Rattle.xs_rect.specs.Area.{Area}
use Rattle.xs_plan.specs.Record.{entry_at}
use Rattle.xs_bench.proofs.Entries.{placed-in, lies-placed, part-placed}
use Rattle.xs_bench.proofs.Showing.{part_more}
use Rattle.xs_bench.proofs.plain.put_row.Goals as goal

pub pixel-requires-clause-point : goal.pixel-requires-clause-point
pixel-requires-clause-point g c =
    let r = (entry_at c.args.p.now.entries c.args.k).rect in
    let is = c.rect-rect.ensures in
    let wide = c.w-column-end.ensures.value ∙ ap (λ (a : Area). a.w) is in
    let high = c.h-high.ensures.value ∙ ap (λ (a : Area). a.h) is in
    let left = c.x.ensures.value ∙ ap (λ (a : Area). a.x) is in
    let low = c.y.ensures.value ∙ ap (λ (a : Area). a.y) is in
    let across = subst (λ n. c.loop-column.column < n) wide c.loop-column-test.true in
    let x = placed-in c.x.result r.x c.w-column-end.result r.w c.loop-column.column c.x.ensures.range c.w-column-end.ensures.range left wide across in
    let y = placed-in c.y.result r.y c.h-high.result r.h c.args.row c.y.ensures.range c.h-high.ensures.range low high c.requires.row in
    rw (x, y) (record { across = lies-placed r.x r.w c.loop-column.column across; up = lies-placed r.y r.h c.args.row c.requires.row })

pub put_row-requires-clause-across : goal.put_row-requires-clause-across
put_row-requires-clause-across g c =
    let r = (entry_at c.args.p.now.entries c.args.k).rect in
    let is = c.rect-rect.ensures in
    let wide = c.w-column-end.ensures.value ∙ ap (λ (a : Area). a.w) is in
    let left = c.x.ensures.value ∙ ap (λ (a : Area). a.x) is in
    let across = subst (λ n. c.loop-column.column < n) wide c.loop-column-test.true in
    let x = placed-in c.x.result r.x c.w-column-end.result r.w c.loop-column.column c.x.ensures.range c.w-column-end.ensures.range left wide across in
    let one : length c.to_bytes-bytes.result / 4 ≡ 1 = omega (arith, c.to_bytes-bytes.type_inv) in
    rw (x, c.loop-column.invariant.area_is) (part-placed r.x r.w c.loop-column.column (length c.to_bytes-bytes.result / 4) across one)

pub put_row-requires-clause-up : goal.put_row-requires-clause-up
put_row-requires-clause-up g c =
    let r = (entry_at c.args.p.now.entries c.args.k).rect in
    let is = c.rect-rect.ensures in
    let high = c.h-high.ensures.value ∙ ap (λ (a : Area). a.h) is in
    let low = c.y.ensures.value ∙ ap (λ (a : Area). a.y) is in
    let y = placed-in c.y.result r.y c.h-high.result r.h c.args.row c.y.ensures.range c.h-high.ensures.range low high c.requires.row in
    rw (y, c.loop-column.invariant.area_is) (lies-placed r.y r.h c.args.row c.requires.row)

pub loop-column-preserved : goal.loop-column-preserved
loop-column-preserved g c =
    let r = (entry_at c.args.p.now.entries c.args.k).rect in
    let is = c.rect-rect.ensures in
    let wide = c.w-column-end.ensures.value ∙ ap (λ (a : Area). a.w) is in
    let high = c.h-high.ensures.value ∙ ap (λ (a : Area). a.h) is in
    let left = c.x.ensures.value ∙ ap (λ (a : Area). a.x) is in
    let low = c.y.ensures.value ∙ ap (λ (a : Area). a.y) is in
    let across = subst (λ n. c.loop-column.column < n) wide c.loop-column-test.true in
    let x = placed-in c.x.result r.x c.w-column-end.result r.w c.loop-column.column c.x.ensures.range c.w-column-end.ensures.range left wide across in
    let y = placed-in c.y.result r.y c.h-high.result r.h c.args.row c.y.ensures.range c.h-high.ensures.range low high c.requires.row in
    part_more r _ c.args.row c.loop-column.column c.loop-column.to c.put_row.new.self _ _ c.pixel.result x y across c.requires.row
    (rw c.to_bytes-bytes.ensures.bytes at c.put_row.ensures.points) c.pixel.ensures c.loop-column.invariant
