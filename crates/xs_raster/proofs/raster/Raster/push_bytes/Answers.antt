use Rattle.std.proofs.Common.{◌++◌, List, ℕ, ap, sym, ◌∙◌, refl}
use Rattle.xs_raster.specs.Bitmap.{Bitmap, bytes_of}
use Rattle.xs_raster.proofs.Bytes.{bytes_of-pixels}
use Rattle.xs_raster.proofs.Blank.{backed, cleared_more}
use Rattle.xs_raster.proofs.raster.Raster.push_bytes.Goals as goal

pub returns-then-has_bytes-clause-bytes : goal.returns-then-has_bytes-clause-bytes
returns-then-has_bytes-clause-bytes c =
    let held = backed _ _ _ c.self.view_is (sym c.if-has_bytes.ensures.value) in
    c.in_ok-extend_from_slice.ensures.items
    ∙ ap (λ (bytes : List ℕ). c.args.to.now.items ++ bytes)
    (c.as_slice.ensures.value ∙ sym (bytes_of-pixels _ _ (c.self.invariant.whole held.some))
    ∙ ap (λ (r : Bitmap). bytes_of r.pixels) held.seen)

pub returns-clause-bytes : goal.returns-clause-bytes
returns-clause-bytes c =
    cleared_more c.args.to.now.items c.resize.new.self.items c.len.result _ c.w.result c.h.result c.args.self.now
    (c.len.ensures ∙ c.args.to.now.ok.0) c.args.to.now.ok.0
    (c.w.ensures.value ∙ ap (λ (r : Bitmap). r.area.w) c.self.view_is)
    (c.h.ensures.value ∙ ap (λ (r : Bitmap). r.area.h) c.self.view_is)
    (c.if-has_bytes.ensures.clear refl) c.in_ok-resize.ensures.items
