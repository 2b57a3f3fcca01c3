use Rattle.std.proofs.Common.{arith}
use Rattle.xs_pixel.specs.Channels.{channels}
use Rattle.xs_pixel.proofs.StaysPixel.{IsPixel-faded_of}
use Rattle.xs_pixel.proofs.pixel.Pixel.faded.Goals as goal

pub invariant_of-result : goal.invariant_of-result
invariant_of-result c =
    rw (c.mul255.ensures.value, c.mul255-2.ensures.value, c.mul255-3.ensures.value, c.mul255-4.ensures.value)
    (IsPixel-faded_of
    (channels c.self.inside.r c.self.inside.g c.self.inside.b c.self.inside.m)
    c.args.part
    c.self.invariant
    (omega (arith, c.ranges.part.fits)))
