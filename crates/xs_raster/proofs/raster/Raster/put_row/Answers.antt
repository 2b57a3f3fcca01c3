use Rattle.std.proofs.Common.{◌≡◌, ◌<◌, length, take, drop, ◌++◌, ap, sym, ◌∙◌, subst, w32, arith}
use Rattle.std.proofs.lemmas.Int.{to_z-of_z}
use Rattle.std.proofs.lemmas.List.{take_at}
use Rattle.xs_pixel.specs.PixelRows.{pixels}
use Rattle.xs_raster.specs.Bitmap.{Bitmap, bitmap, bitmap_of}
use Rattle.xs_raster.specs.Changes.{SetsRow}
use Rattle.xs_raster.proofs.Blank.{backed, bitmap-backed, written}
use Rattle.xs_raster.proofs.raster.Raster.put_row.Goals as goal

-- the bytes that the raster then holds
stored :
    (c : goal.After-self-1)
    → take c.self.inside.bytes.len (c.put_line.new.bytes ++ drop (length c.put_line.new.bytes) c.self.inside.bytes.items) ≡ c.put_line.new.bytes
stored c = take_at _ _ _ (c.put_line.auto.bytes ∙ c.deref_mut.ensures.len)

same_length : (c : goal.After-self-1) → length c.put_line.new.bytes ≡ length c.self.inside.bytes.items
same_length c = c.put_line.auto.bytes ∙ ap length c.deref_mut.ensures.value

-- the raster that it then is
seen :
    (c : goal.After-self-1)
    → bitmap_of c.self.inside.rect (take c.self.inside.bytes.len (c.put_line.new.bytes ++ drop (length c.put_line.new.bytes) c.self.inside.bytes.items))
    ≡ bitmap c.self.inside.rect (pixels c.put_line.new.bytes)
seen c =
    let held = backed _ _ _ c.self.view_is c.requires.room in
    let some : 0 < length c.put_line.new.bytes = omega (arith, held.some, same_length c) in
    ap (bitmap_of c.self.inside.rect) (stored c) ∙ bitmap-backed c.self.inside.rect c.put_line.new.bytes some

pub invariant_of-self : goal.invariant_of-self
invariant_of-self c =
    let held = backed _ _ _ c.self.view_is c.requires.room in
    rw (stored c)
    (written c.self.inside.rect c.self.inside.bytes.items c.put_line.new.bytes c.self.invariant held.some (same_length c)
    (c.put_line.ensures.premultiplied (rw c.deref_mut.ensures.value c.self.invariant.premultiplied) c.requires.premultiplied))

pub returns-clause-list : goal.returns-clause-list
returns-clause-list c =
    let held = backed _ _ _ c.self.view_is c.requires.room in
    let x = to_z-of_z w32 c.args.x c.ranges.x in
    let y = to_z-of_z w32 c.args.y c.ranges.y in
    rw (← held.seen)
    (seen c ∙ ap (bitmap c.self.inside.rect) (rw (x, y, c.deref_mut.ensures.value) at c.put_line.ensures.list))

pub returns-clause-points : goal.returns-clause-points
returns-clause-points c =
    let held = backed _ _ _ c.self.view_is c.requires.room in
    let x = to_z-of_z w32 c.args.x c.ranges.x in
    let y = to_z-of_z w32 c.args.y c.ranges.y in
    let old = bitmap c.self.inside.rect (pixels c.self.inside.bytes.items) in
    rw (← held.seen)
    (subst (λ (new : Bitmap). SetsRow old new c.args.x c.args.y (pixels c.args.bytes.now)) (sym (seen c))
    (rw (x, y, c.deref_mut.ensures.value) at c.put_line.ensures.points))
