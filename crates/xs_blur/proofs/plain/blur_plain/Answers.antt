use Rattle.std.proofs.Common.{◌≡◌, ◌+◌, ◌*◌, sym, ◌∙◌, subst, w32, arith}
use Rattle.std.proofs.lemmas.Int.{to_z-of_z}
use Rattle.xs_pixel.specs.Channels.{IsPixel}
use Rattle.xs_blur.proofs.Squares.{parts_none, parts_all, parts_small, IsPixel-blurred, IsPixel-image}
use Rattle.xs_blur.proofs.plain.blur_plain.Goals as goal

pub loop-row-init : goal.loop-row-init
loop-row-init c = parts_none _ _ c.args.n

pub means-requires-clause-sums : goal.means-requires-clause-sums
means-requires-clause-sums c =
    let all : c.loop-row.row ≡ 2 * c.args.n + 1 = omega arith in
    parts_small _ _ c.args.n (2 * c.args.n + 1) 0 _ c.loop-row.sums (rw all at c.loop-row.invariant)
    (IsPixel-image c.args.input.now c.rect.ensures.premultiplied) (omega (arith, c.new.ensures))

pub means-requires-clause-premultiplied : goal.means-requires-clause-premultiplied
means-requires-clause-premultiplied c =
    let all : c.loop-row.row ≡ 2 * c.args.n + 1 = omega arith in
    subst IsPixel (sym (parts_all _ _ c.args.n c.new.result.count c.loop-row.sums (rw all at c.loop-row.invariant) c.new.ensures))
    (IsPixel-blurred c.args.n _ _ (IsPixel-image c.args.input.now c.rect.ensures.premultiplied))

pub returns : goal.returns
returns c =
    let x = to_z-of_z w32 c.args.x c.ranges.x in
    let y = to_z-of_z w32 c.args.y c.ranges.y in
    let all : c.loop-row.row ≡ 2 * c.args.n + 1 = omega arith in
    c.means.ensures ∙ (rw (x, y) at (parts_all _ _ c.args.n c.new.result.count c.loop-row.sums (rw all at c.loop-row.invariant) c.new.ensures))
