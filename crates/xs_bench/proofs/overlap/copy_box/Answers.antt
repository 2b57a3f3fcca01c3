use Rattle.std.proofs.Common.{◌≡◌, ℕ, ◌+◌, ◌*◌, ◌≤◌, length, ap, ◌∙◌, rules, arith}
use Rattle.std.proofs.lemmas.Simd.{length-replicate}
use Rattle.std.proofs.Math.Nat.{mul-le-mul_right}
use Rattle.xs_bench.proofs.Cells.{bytes_held}
use Rattle.xs_bench.proofs.overlap.copy_box.Goals as goal

pub overflow_mul-across-2 : goal.overflow_mul-across-2
overflow_mul-across-2 c =
    let over = c.requires.overlap.1 in
    let inside = over.across.inside over.wide in
    search (rules, inside)

pub copy_rows-requires-clause-up : goal.copy_rows-requires-clause-up
copy_rows-requires-clause-up c =
    let over = c.requires.overlap.1 in
    let inside = over.up.inside over.high in
    let long : length c.args.bytes.now ≡ 4 * (c.args.rect.w * c.args.rect.h) = ap length c.requires.clear ∙ length-replicate _ 0 in
    let rows : (c.args.o.up.at + c.args.o.up.len) * (4 * c.args.rect.w) ≤ c.args.rect.h * (4 * c.args.rect.w) = mul-le-mul_right (4 * c.args.rect.w) inside.0 in
    let wide = ap (λ (n : ℕ). (c.args.o.up.at + c.args.o.up.len) * (4 * n)) c.w.ensures.value in
    omega (arith, rows, long, wide)

pub copy_rows-requires-clause-up_from : goal.copy_rows-requires-clause-up_from
copy_rows-requires-clause-up_from c =
    let over = c.requires.overlap.1 in
    let inside = over.up.inside over.high in
    let g = c.args.g.now in
    let long : length c.bytes.result.now ≡ 4 * (g.w * g.h) = ap length c.bytes.ensures.value ∙ c.bytes.ensures.raw.whole in
    let rows : (c.args.o.up.from + c.args.o.up.len) * (4 * g.w) ≤ g.h * (4 * g.w) = mul-le-mul_right (4 * g.w) inside.1 in
    let wide = ap (λ (n : ℕ). (c.args.o.up.from + c.args.o.up.len) * (4 * n)) c.w-2.ensures.value in
    omega (arith, rows, long, wide)

pub returns : goal.returns
returns c = λ to over.
    bytes_held c.args.rect c.args.g.now to c.args.o over (4 * (c.args.rect.w * c.args.rect.h)) c.copy_rows.new.to
    (rw (c.bytes.ensures.value, c.w.ensures.value, c.w-2.ensures.value, c.requires.clear) at c.copy_rows.ensures)
    (c.copy_rows.auto.to ∙ ap length c.requires.clear ∙ length-replicate _ 0)
