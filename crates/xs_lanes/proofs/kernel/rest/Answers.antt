use Rattle.std.proofs.Common.{◌≡◌, length, refl, ◌∙◌, arith}
use Rattle.std.specs.Simd.Lanes.{zip2, chunk}
use Rattle.xs_pixel.specs.Channels.{IsPixel}
use Rattle.xs_pixel.specs.PixelRows.{pixels}
use Rattle.xs_pixel.proofs.PixelRowLemmas.{chunk_of_pixels}
use Rattle.xs_lanes.proofs.Lengths.{same_length, length-results}
use Rattle.xs_lanes.proofs.Steps.{done_more, done_all, part_of_zip2}
use Rattle.xs_lanes.proofs.kernel.rest.Goals as goal

pub pixel_at-requires-clause-valid : goal.pixel_at-requires-clause-valid
pixel_at-requires-clause-valid g c =
    chunk_of_pixels IsPixel c.loop-at.at c.loop-at.invariant.count 4 1 c.args.u.now c.loop-at.invariant.whole refl c.requires.first

pub pixel_at-requires-in-loop-at-clause-valid : goal.pixel_at-requires-in-loop-at-clause-valid
pixel_at-requires-in-loop-at-clause-valid g c =
    chunk_of_pixels IsPixel c.loop-at.at c.loop-at.invariant.count 4 1 c.args.d.now c.loop-at.invariant.whole refl c.requires.second

pub loop-at-preserved : goal.loop-at-preserved
loop-at-preserved g c =
    let u = c.args.u.now in
    let d = c.args.d.now in
    let done = c.loop-at.invariant in
    let four : length c.to_bytes.result ≡ 4 = omega arith in
    let one : pixels c.to_bytes.result ≡ zip2 g.K.Kernel.op (pixels (chunk c.loop-at.at 4 u)) (pixels (chunk c.loop-at.at 4 d)) =
    rw (c.pixel_at.ensures, c.pixel_at-in-loop-at.ensures, ← c.one-pixel.ensures) c.to_bytes.ensures.bytes
    in
    let part = part_of_zip2 g.K.Kernel.op c.loop-at.at done.count 4 1 u d done.whole refl (same_length u d c.requires.whole c.requires.same) in
    done_more _ _ _ _ 4 1 done refl (omega (arith, done.whole, done.within)) four (one ∙ part)

pub returns : goal.returns
returns g c =
    let long = length-results g.K.Kernel.op c.args.u.now c.args.d.now c.requires.whole c.requires.same in
    done_all _ _ c.loop-at.at (omega (arith, long)) (omega arith) c.loop-at.invariant
