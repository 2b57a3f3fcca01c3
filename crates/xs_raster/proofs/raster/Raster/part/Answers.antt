use Rattle.std.proofs.Common.{◌*◌, length, ap, sym, ◌∙◌, refl, w32, arith}
use Rattle.std.specs.Simd.Lanes.{chunk}
use Rattle.std.proofs.lemmas.Int.{to_z-of_z}
use Rattle.std.proofs.lemmas.Simd.{Each1-chunk, length-replicate}
use Rattle.xs_pixel.specs.Channels.{IsPixel, clear}
use Rattle.xs_pixel.specs.PixelRows.{pixels}
use Rattle.xs_raster.specs.Bitmap.{Bitmap, place_of}
use Rattle.xs_raster.proofs.Bytes.{pixels-replicate}
use Rattle.xs_raster.proofs.Blank.{backed, chunk-replicate, premultiplied-replicate}
use Rattle.xs_raster.proofs.Points.{place_fits}
use Rattle.xs_raster.proofs.raster.Raster.part.Goals as goal

-- ---- with bytes

pub pixels_from-requires : goal.pixels_from-requires
pixels_from-requires c =
    let x = to_z-of_z w32 c.args.x c.ranges.x in
    let y = to_z-of_z w32 c.args.y c.ranges.y in
    let held = backed _ _ _ c.self.view_is (sym c.if-has_bytes.ensures.value) in
    let place = rw (x, y) at c.place-at.ensures.value in
    let fits = rw (← held.seen) at (place_fits c.args.self.now.area c.args.x c.args.y c.args.n c.requires.across c.requires.up) in
    rw (c.as_slice.ensures.value, c.self.invariant.whole held.some) (omega (arith, place, fits))

pub returns-then-has_bytes-clause-pixels : goal.returns-then-has_bytes-clause-pixels
returns-then-has_bytes-clause-pixels c =
    let x = to_z-of_z w32 c.args.x c.ranges.x in
    let y = to_z-of_z w32 c.args.y c.ranges.y in
    let held = backed _ _ _ c.self.view_is (sym c.if-has_bytes.ensures.value) in
    let place = rw (x, y) at c.place-at.ensures.value in
    rw (c.pixels_from.ensures.pixels, c.as_slice.ensures.value, ← held.seen, place)

pub returns-then-has_bytes-clause-premultiplied : goal.returns-then-has_bytes-clause-premultiplied
returns-then-has_bytes-clause-premultiplied c =
    rw (c.pixels_from.ensures.pixels, c.as_slice.ensures.value) (Each1-chunk IsPixel _ _ _ c.self.invariant.premultiplied)

-- ---- clear, without bytes

pub returns-clause-pixels : goal.returns-clause-pixels
returns-clause-pixels c =
    let fits = place_fits c.args.self.now.area c.args.x c.args.y c.args.n c.requires.across c.requires.up in
    let all = c.args.self.now.area.w * c.args.self.now.area.h in
    ap pixels c.clear_row.ensures ∙ pixels-replicate (4 * c.args.n) c.args.n refl
    ∙ sym (chunk-replicate (place_of c.args.self.now.area c.args.x c.args.y) c.args.n all clear fits)
    ∙ ap (λ (r : Bitmap). chunk (place_of c.args.self.now.area c.args.x c.args.y) c.args.n r.pixels) (sym (c.if-has_bytes.ensures.clear refl))

pub returns-clause-count : goal.returns-clause-count
returns-clause-count c =
    ap (λ bytes. length (pixels bytes)) c.clear_row.ensures
    ∙ ap length (pixels-replicate (4 * c.args.n) c.args.n refl) ∙ length-replicate c.args.n clear

pub returns-clause-premultiplied : goal.returns-clause-premultiplied
returns-clause-premultiplied c = rw c.clear_row.ensures (premultiplied-replicate c.args.n)
