use Rattle.xs_pixel.specs.Channels.{channels}
use Rattle.xs_pixel.proofs.StaysPixel.{IsPixel-over_of}
use Rattle.xs_pixel.proofs.operation.over.Goals as goal

pub invariant_of-result : goal.invariant_of-result
invariant_of-result c =
    rw (c.mul255.ensures.value, c.mul255-2.ensures.value, c.mul255-3.ensures.value, c.mul255-4.ensures.value)
    (IsPixel-over_of
    (channels c.u.inside.r c.u.inside.g c.u.inside.b c.u.inside.m)
    (channels c.d.inside.r c.d.inside.g c.d.inside.b c.d.inside.m)
    c.u.invariant
    c.d.invariant)
