use Rattle.std.proofs.Common.{◌≡◌, ◌<◌, length, take, drop, ◌++◌, ap, sym, ◌∙◌, subst, arith}
use Rattle.std.proofs.lemmas.List.{take_at}
use Rattle.xs_pixel.specs.PixelRows.{pixels}
use Rattle.xs_raster.specs.Bitmap.{Bitmap, bitmap, bitmap_of}
use Rattle.xs_raster.specs.Changes.{Pastes}
use Rattle.xs_raster.proofs.Blank.{backed, bitmap-backed, written}
use Rattle.xs_raster.proofs.raster.Raster.paste.Goals as goal

-- the bytes that the raster then holds
stored :
    (c : goal.After-self-1)
    → take c.self.inside.bytes.len (c.paste_into.new.bytes ++ drop (length c.paste_into.new.bytes) c.self.inside.bytes.items) ≡ c.paste_into.new.bytes
stored c = take_at _ _ _ (c.paste_into.auto.bytes ∙ c.deref_mut.ensures.len)

same_length : (c : goal.After-self-1) → length c.paste_into.new.bytes ≡ length c.self.inside.bytes.items
same_length c = c.paste_into.auto.bytes ∙ ap length c.deref_mut.ensures.value

-- the raster that it then is
seen :
    (c : goal.After-self-1)
    → bitmap_of c.self.inside.rect (take c.self.inside.bytes.len (c.paste_into.new.bytes ++ drop (length c.paste_into.new.bytes) c.self.inside.bytes.items))
    ≡ bitmap c.self.inside.rect (pixels c.paste_into.new.bytes)
seen c =
    let held = backed _ _ _ c.self.view_is c.requires in
    let some : 0 < length c.paste_into.new.bytes = omega (arith, held.some, same_length c) in
    ap (bitmap_of c.self.inside.rect) (stored c) ∙ bitmap-backed c.self.inside.rect c.paste_into.new.bytes some

pub invariant_of-self : goal.invariant_of-self
invariant_of-self c =
    let held = backed _ _ _ c.self.view_is c.requires in
    rw (stored c)
    (written c.self.inside.rect c.self.inside.bytes.items c.paste_into.new.bytes c.self.invariant held.some (same_length c)
    (c.paste_into.ensures.premultiplied (rw c.deref_mut.ensures.value c.self.invariant.premultiplied)))

pub returns : goal.returns
returns c =
    let held = backed _ _ _ c.self.view_is c.requires in
    let old = bitmap c.self.inside.rect (pixels c.self.inside.bytes.items) in
    rw (← held.seen)
    (subst (λ (new : Bitmap). Pastes old new c.args.t.now.raster) (sym (seen c))
    (rw (c.deref_mut.ensures.value) at c.paste_into.ensures.points))
