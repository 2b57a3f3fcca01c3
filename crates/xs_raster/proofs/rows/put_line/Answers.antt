use Rattle.std.proofs.Common.{◌≡◌, ◌/◌, length, ap, sym, ◌∙◌, w32, arith, refl}
use Rattle.std.specs.Simd.Lanes.{put_chunk}
use Rattle.std.proofs.lemmas.Int.{to_z-of_z}
use Rattle.std.proofs.lemmas.Simd.{Each1-put_chunk}
use Rattle.xs_pixel.specs.Channels.{IsPixel}
use Rattle.xs_pixel.specs.PixelRows.{pixels}
use Rattle.xs_raster.specs.Bitmap.{bitmap, place_of}
use Rattle.xs_raster.proofs.Points.{place_fits, sets_row}
use Rattle.xs_raster.proofs.rows.put_line.Goals as goal

at_point : (c : goal.After-put_pixels-arg-1) → c.place-at.result ≡ place_of c.args.rect c.args.x c.args.y
at_point c =
    let x = to_z-of_z w32 c.args.x c.ranges.x in
    let y = to_z-of_z w32 c.args.y c.ranges.y in
    rw (x, y) at c.place-at.ensures.value

pub put_pixels-requires-clause-room : goal.put_pixels-requires-clause-room
put_pixels-requires-clause-room c =
    let place = at_point c in
    let fits = place_fits c.args.rect c.args.x c.args.y (length c.args.row.now / 4) c.requires.across c.requires.up in
    omega (arith, place, fits)

pub returns-clause-list : goal.returns-clause-list
returns-clause-list c =
    let x = to_z-of_z w32 c.args.x c.ranges.x in
    let y = to_z-of_z w32 c.args.y c.ranges.y in
    c.put_pixels.ensures
    ∙ ap (λ at. put_chunk at (pixels c.args.bytes.now) (pixels c.args.row.now)) (rw (x, y) at c.place-at.ensures.value)

pub returns-clause-premultiplied : goal.returns-clause-premultiplied
returns-clause-premultiplied c =
    λ old row. rw (c.put_pixels.ensures) (Each1-put_chunk IsPixel _ _ _ old row)

pub returns-clause-points : goal.returns-clause-points
returns-clause-points c =
    let count = c.rows_of_bytes_are_rows_of_pixels.ensures.count in
    let long : length (pixels c.args.row.now) ≡ length c.args.row.now / 4 = count _ c.args.row.now (omega arith) in
    rw (returns-clause-list c)
    (sets_row (bitmap c.args.rect (pixels c.args.bytes.now)) c.args.x c.args.y (pixels c.args.row.now)
    (rw long c.requires.across) c.requires.up (sym (count _ _ c.requires.whole)) refl)
