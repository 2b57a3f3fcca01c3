use Rattle.xs_raster.proofs.Blank.{length-seen, premultiplied-seen}
use Rattle.xs_raster.proofs.raster.Raster.rect.Goals as goal

pub returns-clause-size : goal.returns-clause-size
returns-clause-size c =
    rw (← c.self.view_is) (length-seen c.self.inside.rect c.self.inside.bytes.items c.rows_of_bytes_are_rows_of_pixels.ensures.count c.self.invariant)

pub returns-clause-premultiplied : goal.returns-clause-premultiplied
returns-clause-premultiplied c =
    rw (← c.self.view_is) (premultiplied-seen c.self.inside.rect c.self.inside.bytes.items c.self.invariant)
