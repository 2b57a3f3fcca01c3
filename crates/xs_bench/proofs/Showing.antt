-- An image that is put into a raster pixel by pixel.
use Rattle.std.proofs.Common.{◌≡◌, ℕ, ◌+◌, ◌<◌, true, ℤ, pos, ◌+ℤ◌, ◌-ℤ◌, unsigned_abs, [], ◌∷◌, slice_index_or, refl, sym, ap, ◌∙◌, inl, inr, subst, arith}
use Rattle.std.proofs.lemmas.Bool.{cases_lt}
use Rattle.std.proofs.lemmas.Int.{ints}
use Rattle.xs_pixel.specs.Channels.{Channels, clear}
use Rattle.xs_pixel.specs.Images.{Image}
use Rattle.xs_pixel.specs.Points.{point}
use Rattle.xs_rect.specs.Area.{Area, Holds, Lies}
use Rattle.xs_raster.specs.Bitmap.{Bitmap, pixel_of}
use Rattle.xs_raster.specs.Changes.{SetsRow}
use Rattle.xs_bench.specs.Shows.{Shows, ShowsPart}

pub part_none : (on : Area) (image : Image) (r : Bitmap) → r.area ≡ on → r.has_bytes ≡ true → ShowsPart on image 0 0 r
part_none on image r is bytes = record {
  area_is = is;
  bytes = bytes;
  below = λ x y held. absurd (omega (arith, ints, held.up.least, held.up.below));
  line = λ x held. absurd (omega (arith, ints, held.least, held.below));
}

-- the pixel of a row of one
only_pixel : (pixel : Channels) (k : ℕ) → k ≡ 0 → slice_index_or (pixel ∷ []) k clear ≡ pixel
only_pixel pixel k none = rw none refl

-- one pixel more
pub part_more :
    (on : Area) (image : Image) (rows more : ℕ) (old new : Bitmap) (x y : ℤ) (pixel : Channels)
    → x ≡ on.x +ℤ pos more → y ≡ on.y +ℤ pos rows → more < on.w → rows < on.h → SetsRow old new x y (pixel ∷ [])
    → pixel ≡ image (point x y) → ShowsPart on image rows more old → ShowsPart on image rows (more + 1) new
part_more on image rows more old new x y pixel right up across high sets is before = record {
  area_is = sets.same_area ∙ before.area_is;
  bytes = sets.same_kind ∙ before.bytes;
  below = λ p q held.
      let in_all : Lies on.y on.h q = record { least = held.up.least; below = omega (arith, ints, held.up.least, held.up.below) } in
      sets.kept p q (in_old p q (record { across = held.across; up = in_all }))
      (λ there. omega (arith, ints, there.up.least, held.up.below))
      ∙ before.below p q held;
  line = λ p held.
      let in_line : Lies on.x on.w p = record { least = held.least; below = omega (arith, ints, held.least, held.below) } in
      let in_all : Lies on.y on.h (on.y +ℤ pos rows) = record { least = omega (arith, ints); below = omega (arith, ints) } in
      elim (cases_lt (unsigned_abs (p -ℤ on.x)) more) [
        | inl earlier ↦
            let left : Lies on.x more p = record { least = held.least; below = omega (arith, ints, held.least) } in
            sets.kept p (on.y +ℤ pos rows) (in_old p (on.y +ℤ pos rows) (record { across = in_line; up = in_all }))
            (λ there. omega (arith, ints, there.across.least, held.least))
            ∙ before.line p left
        | inr later ↦
            let here : p ≡ x = omega (arith, ints, held.least, held.below) in
            let only : Lies x 1 p = record { least = omega (arith, ints); below = omega (arith, ints) } in
            ap (λ (z : ℤ). pixel_of new p z) (sym up)
            ∙ sets.set p only
            ∙ only_pixel pixel (unsigned_abs (p -ℤ x)) (omega (arith, ints))
            ∙ is
            ∙ ap (λ (z : ℤ). image (point z y)) (sym here)
            ∙ ap (λ (z : ℤ). image (point p z)) up
      ];
}
  where
    in_old : (p q : ℤ) → Holds on p q → Holds old.area p q
    in_old p q held = subst (λ (a : Area). Holds a p q) (sym before.area_is) held

-- a whole row
pub part_line :
    (on : Area) (image : Image) (rows : ℕ) (r : Bitmap) → ShowsPart on image rows on.w r → ShowsPart on image (rows + 1) 0 r
part_line on image rows r before = record {
  area_is = before.area_is;
  bytes = before.bytes;
  below = λ x y held.
      elim (cases_lt (unsigned_abs (y -ℤ on.y)) rows) [
        | inl lower ↦
            let up : Lies on.y rows y = record { least = held.up.least; below = omega (arith, ints, held.up.least) } in
            before.below x y (record { across = held.across; up = up })
        | inr not_lower ↦
            let here : y ≡ on.y +ℤ pos rows = omega (arith, ints, held.up.least, held.up.below) in
            rw here (before.line x held.across)
      ];
  line = λ x held. absurd (omega (arith, ints, held.least, held.below));
}

-- all rows
pub part_all : (on : Area) (image : Image) (rows : ℕ) (r : Bitmap) → rows ≡ on.h → ShowsPart on image rows 0 r → Shows on image r
part_all on image rows r all part = record {
  area_is = part.area_is;
  pixels_are = λ x y held. part.below x y (rw all held);
}
