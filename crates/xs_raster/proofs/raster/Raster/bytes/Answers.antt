use Rattle.std.proofs.Common.{sym, ◌∙◌, ap, ◌*◌, ℕ}
use Rattle.xs_raster.proofs.Bytes.{bytes_of-pixels}
use Rattle.xs_raster.proofs.Blank.{Backed, backed}
use Rattle.xs_raster.proofs.raster.Raster.bytes.Goals as goal

held : (c : goal.After-as_slice) → Backed c.self.inside.rect c.self.inside.bytes.items c.args.self.now
held c = backed _ _ _ c.self.view_is c.requires

pub returns-clause-exact : goal.returns-clause-exact
returns-clause-exact c =
    rw (c.as_slice.ensures.value, ← (held c).seen) (sym (bytes_of-pixels _ _ (c.self.invariant.whole (held c).some)))

pub returns-clause-pixels : goal.returns-clause-pixels
returns-clause-pixels c = rw (c.as_slice.ensures.value, ← (held c).seen)

pub returns-clause-whole : goal.returns-clause-whole
returns-clause-whole c =
    let whole = c.self.invariant.whole (held c).some in
    rw (c.as_slice.ensures.value, ← (held c).seen)
    (whole ∙ ap (λ (n : ℕ). 4 * n) (sym (c.rows_of_bytes_are_rows_of_pixels.ensures.count _ _ whole)))

pub returns-clause-premultiplied : goal.returns-clause-premultiplied
returns-clause-premultiplied c = rw (← (held c).seen) c.self.invariant.premultiplied
