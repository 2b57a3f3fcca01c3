use Rattle.std.proofs.Common.{◌≡◌, ◌+◌, ◌*◌, ◌≤◌, ℤ, pos, ◌+ℤ◌, ◌-ℤ◌, ap₂, ◌∙◌, w32, arith}
use Rattle.std.proofs.Math.Nat.{mul-le-mul_right}
use Rattle.std.proofs.lemmas.Int.{ints, to_z-of_z}
use Rattle.xs_raster.specs.Bitmap.{pixel_of}
use Rattle.xs_blur.proofs.Squares.{parts_more, parts_line, parts_small, IsPixel-image}
use Rattle.xs_blur.proofs.plain.with_line.Goals as goal

pub round-at_y-requires-clause-near : goal.round-at_y-requires-clause-near
round-at_y-requires-clause-near c =
    let there = rw (← c.rect-rect.ensures.area) at c.requires.there in
    let y = to_z-of_z w32 c.args.y c.ranges.y in
    rw y (
      omega (arith, ints, there.up),
      omega (arith, ints, there.up),
    )

pub round-at_x-requires-clause-near : goal.round-at_x-requires-clause-near
round-at_x-requires-clause-near c =
    let there = rw (← c.rect-rect.ensures.area) at c.requires.there in
    let x = to_z-of_z w32 c.args.x c.ranges.x in
    rw x (
      omega (arith, ints, there.across),
      omega (arith, ints, there.across),
    )

pub pixel-pixel-requires : goal.pixel-pixel-requires
pixel-pixel-requires c =
    let x = to_z-of_z w32 c.args.x c.ranges.x in
    let y = to_z-of_z w32 c.args.y c.ranges.y in
    let at_x = to_z-of_z w32 c.round-at_x.result (record { sfits = c.round-at_x.type_inv }) in
    let at_y = to_z-of_z w32 c.round-at_y.result (record { sfits = c.round-at_y.type_inv }) in
    let is_x = rw x at c.round-at_x.ensures in
    let is_y = rw y at c.round-at_y.ensures in
    rw (at_x, at_y, is_x, is_y) (record {
      across = record { least = omega (arith, ints, c.requires.there.across); below = omega (arith, ints, c.requires.there.across) };
      up = record { least = omega (arith, ints, c.requires.there.up); below = omega (arith, ints, c.requires.there.up) };
    })

pub plus-sums-requires : goal.plus-sums-requires
plus-sums-requires c =
    let line : c.args.row * ((2 * c.args.n + 1) * 255) ≤ 32 * ((2 * c.args.n + 1) * 255) = mul-le-mul_right ((2 * c.args.n + 1) * 255) (omega arith) in
    parts_small _ _ c.args.n c.args.row c.loop-column.column 1000000 c.loop-column.sums c.loop-column.invariant
    (IsPixel-image c.args.input.now c.rect-rect.ensures.premultiplied) (omega (arith, line))

pub loop-column-preserved : goal.loop-column-preserved
loop-column-preserved c =
    let x = to_z-of_z w32 c.args.x c.ranges.x in
    let y = to_z-of_z w32 c.args.y c.ranges.y in
    let at_x = to_z-of_z w32 c.round-at_x.result (record { sfits = c.round-at_x.type_inv }) in
    let at_y = to_z-of_z w32 c.round-at_y.result (record { sfits = c.round-at_y.type_inv }) in
    let is_x : c.round-at_x.result ≡ c.args.x +ℤ (pos c.loop-column.column -ℤ pos c.args.n) = omega (arith, ints, rw x at c.round-at_x.ensures) in
    let is_y : c.round-at_y.result ≡ c.args.y +ℤ (pos c.args.row -ℤ pos c.args.n) = omega (arith, ints, rw y at c.round-at_y.ensures) in
    parts_more _ _ c.args.n c.args.row c.loop-column.column c.loop-column.sums c.plus-sums.result c.pixel-pixel.result c.loop-column.invariant
    (rw (x, y) ((rw (at_x, at_y) at c.pixel-pixel.ensures) ∙ ap₂ (λ (u v : ℤ). pixel_of c.args.input.now u v) is_x is_y))
    c.plus-sums.ensures.red c.plus-sums.ensures.green c.plus-sums.ensures.blue c.plus-sums.ensures.matte

pub returns : goal.returns
returns c =
    let x = to_z-of_z w32 c.args.x c.ranges.x in
    let y = to_z-of_z w32 c.args.y c.ranges.y in
    let all : c.loop-column.column ≡ 2 * c.args.n + 1 = omega arith in
    parts_line _ _ c.args.n c.args.row c.loop-column.sums (rw (x, y, all) at c.loop-column.invariant)
