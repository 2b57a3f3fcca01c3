use Rattle.std.proofs.Common.{◌∙◌}
use Rattle.xs_pixel.specs.PixelRows.{pixels}
use Rattle.xs_palette.proofs.LookUp.{look_up}
use Rattle.xs_palette.proofs.palette.Palette.style.Goals as goal

pub returns : goal.returns
returns c =
    let table = c.self.inside.table.items in
    let past = c.self.inside.past in
    let long = c.rows_of_bytes_are_rows_of_pixels.ensures.count _ table c.self.invariant.whole in
    let found = look_up past (pixels table) long c.self.invariant.zero_clear c.self.invariant.past_clear c.args.id in
    rw (← c.self.view_is) (rw (c.deref.ensures.value, c.min.ensures) at c.from_row.ensures ∙ found)
