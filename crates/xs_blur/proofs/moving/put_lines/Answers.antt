use Rattle.std.proofs.Common.{◌≡◌, ℕ, ◌+◌, ◌*◌, ◌/◌, ◌≤◌, pos, ◌+ℤ◌, length, ◌<◌, refl, sym, ap, ◌∙◌, subst, w32, arith}
use Rattle.std.proofs.Math.Nat.{mul-le-mul_left}
use Rattle.std.proofs.lemmas.Int.{ints, to_z_pos, to_z-of_z, fits_signed_from_abs}
use Rattle.xs_rect.specs.Area.{Area}
use Rattle.xs_pixel.specs.PixelRows.{pixels}
use Rattle.xs_blur.specs.Totals.{AreColumns}
use Rattle.xs_blur.proofs.Blurring.{bordered, rows_fit, columns_small, line_blurs, line_is_pixels, blurred_more, blurred_all}
use Rattle.xs_blur.proofs.moving.put_lines.Goals as goal

pub first_rows-requires-clause-there : goal.first_rows-requires-clause-there
first_rows-requires-clause-there c =
    let a = c.args.to.now.area in
    let is = bordered a c.args.n c.args.input.now c.bytes-bytes.result.now _ c.rect-rect.ensures.area c.rect-rect.ensures.size c.requires.there c.bytes-bytes.ensures.pixels c.bytes-bytes.ensures.whole in
    let wide : length c.args.columns.now ≡ 4 * (a.w + 2 * c.args.n) = c.requires.wide ∙ ap (λ (b : Area). 4 * b.w) c.requires.there in
    let rows : length c.args.columns.now * (2 * c.args.n) ≤ length c.args.columns.now * (a.h + 2 * c.args.n) = mul-le-mul_left (length c.args.columns.now) (omega arith) in
    let all : length c.args.columns.now * (a.h + 2 * c.args.n) ≡ 4 * (a.w + 2 * c.args.n) * (a.h + 2 * c.args.n) = ap (λ (k : ℕ). k * (a.h + 2 * c.args.n)) wide in
    omega (arith, rows, all, is.whole)

pub with_row-requires-clause-there : goal.with_row-requires-clause-there
with_row-requires-clause-there c =
    let a = c.args.to.now.area in
    let is = bordered a c.args.n c.args.input.now c.bytes-bytes.result.now _ c.rect-rect.ensures.area c.rect-rect.ensures.size c.requires.there c.bytes-bytes.ensures.pixels c.bytes-bytes.ensures.whole in
    let wide : length c.loop-y.columns ≡ 4 * (a.w + 2 * c.args.n) = c.loop-y.auto.columns ∙ c.first_rows.auto.columns ∙ c.requires.wide ∙ ap (λ (b : Area). 4 * b.w) c.requires.there in
    rows_fit a c.args.n c.args.input.now c.bytes-bytes.result.now _ c.loop-y.y is wide (omega (arith, c.h-y-end.ensures.value, ap (λ (b : Area). b.h) c.rect-rect-2.ensures.area))

pub put_line-requires-clause-sums : goal.put_line-requires-clause-sums
put_line-requires-clause-sums c =
    columns_small c.with_row.new.sums c.bytes-bytes.result.now _ c.loop-y.y (2 * c.args.n + 1) c.with_row.ensures c.with_row.auto.sums
    (λ i. omega (arith, c.type_inv.bytes i))

pub put_row-requires-clause-premultiplied : goal.put_row-requires-clause-premultiplied
put_row-requires-clause-premultiplied c =
    let a = c.args.to.now.area in
    let n = c.args.n in
    let bytes = c.bytes-bytes.result.now in
    let is = bordered a n c.args.input.now bytes _ c.rect-rect.ensures.area c.rect-rect.ensures.size c.requires.there c.bytes-bytes.ensures.pixels c.bytes-bytes.ensures.whole in
    let wide : length c.loop-y.columns ≡ 4 * (a.w + 2 * n) = c.loop-y.auto.columns ∙ c.first_rows.auto.columns ∙ c.requires.wide ∙ ap (λ (b : Area). 4 * b.w) c.requires.there in
    let line = c.put_line.new.line in
    let whole : length line ≡ 4 * a.w = c.put_line.auto.line ∙ c.loop-y.auto.line ∙ c.requires.line in
    let long = c.rows_of_bytes_are_rows_of_pixels.ensures.count a.w line whole in
    let up : c.loop-y.y < a.h = omega (arith, c.h-y-end.ensures.value, ap (λ (b : Area). b.h) c.rect-rect-2.ensures.area) in
    let count : length c.loop-y.line / 4 ≡ a.w = omega (arith, c.loop-y.auto.line, c.requires.line) in
    let blurs = λ (x : ℕ) (across : x < a.w).
    line_blurs a n c.args.input.now bytes c.with_row.new.sums line (length c.loop-y.columns) x c.loop-y.y (2 * n + 1) (length c.loop-y.line / 4)
    is wide refl count c.with_row.ensures c.put_line.ensures whole up across in
    line_is_pixels a n c.args.input.now line c.loop-y.y c.rect-rect.ensures.premultiplied long blurs

pub put_row-requires-clause-up : goal.put_row-requires-clause-up
put_row-requires-clause-up c =
    let i = to_z_pos w32 c.loop-y.y (omega arith) in
    let low = to_z-of_z w32 c.y.result (record { sfits = omega (arith, ints) }) in
    let y = to_z-of_z w32 (c.y.result +ℤ pos c.loop-y.y) (fits_signed_from_abs w32 _ (omega (arith, ints))) in
    rw (c.loop-y.invariant.lines.same_area, ← c.rect-rect-2.ensures.area, low, i, y, c.y.ensures.value)
    (record { least = omega (arith, ints); below = omega (arith, ints) })

pub without_row-requires-clause-there : goal.without_row-requires-clause-there
without_row-requires-clause-there c =
    let a = c.args.to.now.area in
    let is = bordered a c.args.n c.args.input.now c.bytes-bytes.result.now _ c.rect-rect.ensures.area c.rect-rect.ensures.size c.requires.there c.bytes-bytes.ensures.pixels c.bytes-bytes.ensures.whole in
    let long = length c.with_row.new.sums in
    let wide : long ≡ 4 * (a.w + 2 * c.args.n) = c.with_row.auto.sums ∙ c.loop-y.auto.columns ∙ c.first_rows.auto.columns ∙ c.requires.wide ∙ ap (λ (b : Area). 4 * b.w) c.requires.there in
    let rows : long * (c.loop-y.y + 1) ≤ long * (c.loop-y.y + 2 * c.args.n + 1) = mul-le-mul_left long (omega arith) in
    let fits = rows_fit a c.args.n c.args.input.now c.bytes-bytes.result.now long c.loop-y.y is wide (omega (arith, c.h-y-end.ensures.value, ap (λ (b : Area). b.h) c.rect-rect-2.ensures.area)) in
    omega (arith, rows, fits)

pub loop-y-preserved : goal.loop-y-preserved
loop-y-preserved c =
    let a = c.args.to.now.area in
    let n = c.args.n in
    let bytes = c.bytes-bytes.result.now in
    let is = bordered a n c.args.input.now bytes _ c.rect-rect.ensures.area c.rect-rect.ensures.size c.requires.there c.bytes-bytes.ensures.pixels c.bytes-bytes.ensures.whole in
    let wide : length c.loop-y.columns ≡ 4 * (a.w + 2 * n) = c.loop-y.auto.columns ∙ c.first_rows.auto.columns ∙ c.requires.wide ∙ ap (λ (b : Area). 4 * b.w) c.requires.there in
    let line = c.put_line.new.line in
    let whole : length line ≡ 4 * a.w = c.put_line.auto.line ∙ c.loop-y.auto.line ∙ c.requires.line in
    let long = c.rows_of_bytes_are_rows_of_pixels.ensures.count a.w line whole in
    let up : c.loop-y.y < a.h = omega (arith, c.h-y-end.ensures.value, ap (λ (b : Area). b.h) c.rect-rect-2.ensures.area) in
    let count : length c.loop-y.line / 4 ≡ a.w = omega (arith, c.loop-y.auto.line, c.requires.line) in
    let blurs = λ (x : ℕ) (across : x < a.w).
    line_blurs a n c.args.input.now bytes c.with_row.new.sums line (length c.loop-y.columns) x c.loop-y.y (2 * n + 1) (length c.loop-y.line / 4)
    is wide refl count c.with_row.ensures c.put_line.ensures whole up across in
    let i = to_z_pos w32 c.loop-y.y (omega arith) in
    let left = to_z-of_z w32 c.x.result (record { sfits = omega (arith, ints) }) in
    let low = to_z-of_z w32 c.y.result (record { sfits = omega (arith, ints) }) in
    let y = to_z-of_z w32 (c.y.result +ℤ pos c.loop-y.y) (fits_signed_from_abs w32 _ (omega (arith, ints))) in
    record {
      columns = subst (λ (long : ℕ). AreColumns c.without_row.new.sums bytes long (c.loop-y.y + 1) (2 * n)) (sym c.without_row.auto.sums) c.without_row.ensures;
      lines = blurred_more n c.args.input.now a c.loop-y.y c.loop-y.to c.put_row.new.self (pixels line) c.loop-y.invariant.lines up
          (rw (left, low, i, y, c.x.ensures.value, c.y.ensures.value, c.rect-rect-2.ensures.area) at c.put_row.ensures.points)
          long blurs;
    }

pub returns-clause-blurs : goal.returns-clause-blurs
returns-clause-blurs c =
    blurred_all c.args.n c.args.input.now c.args.to.now.area c.loop-y.y c.loop-y.to c.loop-y.invariant.lines
    (omega (arith, c.h-y-end.ensures.value, ap (λ (b : Area). b.h) c.rect-rect-2.ensures.area)) c.requires.bytes
