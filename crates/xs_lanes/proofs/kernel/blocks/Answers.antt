use Rattle.std.proofs.Common.{refl, ◌∙◌, arith}
use Rattle.xs_pixel.specs.Channels.{IsPixel}
use Rattle.xs_pixel.proofs.PixelRowLemmas.{chunk_of_pixels}
use Rattle.xs_lanes.proofs.Lengths.{same_length}
use Rattle.xs_lanes.proofs.Steps.{done_more, part_of_zip2}
use Rattle.xs_lanes.proofs.kernel.blocks.Goals as goal

pub block-requires-clause-first : goal.block-requires-clause-first
block-requires-clause-first g c =
    chunk_of_pixels IsPixel c.loop-at.at c.loop-at.invariant.count 16 4 c.args.u.now c.loop-at.invariant.whole refl c.requires.first

pub block-requires-clause-second : goal.block-requires-clause-second
block-requires-clause-second g c =
    chunk_of_pixels IsPixel c.loop-at.at c.loop-at.invariant.count 16 4 c.args.d.now c.loop-at.invariant.whole refl c.requires.second

pub loop-at-preserved : goal.loop-at-preserved
loop-at-preserved g c =
    let u = c.args.u.now in
    let d = c.args.d.now in
    let done = c.loop-at.invariant in
    let part = part_of_zip2 g.K.Kernel.op c.loop-at.at done.count 16 4 u d done.whole refl (same_length u d c.requires.whole c.requires.same) in
    done_more _ _ _ _ 16 4 done refl (omega (arith, done.within)) c.block.ensures.long (c.block.ensures.value ∙ part)
