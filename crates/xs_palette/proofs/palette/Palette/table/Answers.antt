use Rattle.std.proofs.Common.{◌≡◌, ◌+◌, ◌-◌, length, ap, arith}
use Rattle.xs_pixel.specs.PixelRows.{pixels}
use Rattle.xs_palette.proofs.LookUp.{look_up}
use Rattle.xs_palette.proofs.palette.Palette.table.Goals as goal

pub returns-clause-whole : goal.returns-clause-whole
returns-clause-whole c =
    let table = c.self.inside.table.items in
    let pixels = c.rows_of_bytes_are_rows_of_pixels.ensures.count (c.self.inside.past + 1) table c.self.invariant.whole in
    omega (arith, pixels, c.self.invariant.whole, ap length c.self.view_is, ap length c.as_slice.ensures.value)

pub returns-clause-few : goal.returns-clause-few
returns-clause-few c =
    let pixels = c.rows_of_bytes_are_rows_of_pixels.ensures.count (c.self.inside.past + 1) c.self.inside.table.items c.self.invariant.whole in
    (omega (arith, pixels, ap length c.self.view_is), omega (arith, pixels, c.self.invariant.few, ap length c.self.view_is))

pub returns-clause-look_up : goal.returns-clause-look_up
returns-clause-look_up c =
    let table = c.self.inside.table.items in
    let long = c.rows_of_bytes_are_rows_of_pixels.ensures.count (c.self.inside.past + 1) table c.self.invariant.whole in
    let last : length (pixels table) - 1 ≡ c.self.inside.past = omega arith in
    rw (← c.self.view_is) (λ id. rw last (look_up c.self.inside.past (pixels table) long c.self.invariant.zero_clear c.self.invariant.past_clear id))
