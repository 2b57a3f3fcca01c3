-- Pasting row by row: what has been pasted so far is a part of the common area.
use Rattle.std.proofs.Common.{◌≡◌, ℕ, ◌+◌, ◌<◌, ℤ, pos, ◌+ℤ◌, ◌≤ℤ◌, ◌<ℤ◌, length, slice_index_or, refl, sym, ap, ◌∙◌, inl, inr, subst, arith}
use Rattle.std.specs.Simd.Lanes.{chunk}
use Rattle.std.proofs.lemmas.Bool.{cases_lt}
use Rattle.std.proofs.lemmas.Int.{ints}
use Rattle.std.proofs.lemmas.Simd.{get_or-chunk}
use Rattle.xs_pixel.specs.Channels.{clear}
use Rattle.xs_pixel.specs.Picture.{place_in_box}
use Rattle.xs_rect.specs.Area.{Area, area, Holds, IsCommonPart, IsWithin, Lies, ShareNoPoint}
use Rattle.xs_raster.specs.Bitmap.{Bitmap, place_of, pixel_of, part_of}
use Rattle.xs_raster.specs.Changes.{SetsRow, Pastes}
use Rattle.xs_raster.proofs.Points.{off, off_below}

-- the points of the part have the tile's pixels, and all others are as they were
pub record PastedIn (part : Area) (old new tile : Bitmap) : Type 0 where
  pub same_area : new.area ≡ old.area
  pub same_size : length new.pixels ≡ length old.pixels
  pub same_kind : new.has_bytes ≡ old.has_bytes
  pub pasted : (p q : ℤ) → Holds part p q → pixel_of new p q ≡ pixel_of tile p q
  pub kept : (p q : ℤ) → Holds old.area p q → ¬ Holds part p q → pixel_of new p q ≡ pixel_of old p q

-- the part of an area below its row i
abbrev pub rows_below : Area → ℕ → Area
rows_below c i = area c.x c.y c.w i

pub pasted_none : (c : Area) (old tile : Bitmap) → PastedIn (rows_below c 0) old old tile
pasted_none c old tile = record {
  same_area = refl;
  same_size = refl;
  same_kind = refl;
  pasted = λ p q held. absurd (omega (arith, ints, held.up.least, held.up.below));
  kept = λ p q held apart. refl;
}

pub pasted_all : (c : Area) (old new tile : Bitmap) → IsCommonPart old.area tile.area c → PastedIn c old new tile → Pastes old new tile
pasted_all c old new tile common done = record {
  same_area = done.same_area;
  same_size = done.same_size;
  same_kind = done.same_kind;
  pasted = λ p q mine its. done.pasted p q ((common p q).1 (mine, its));
  kept = λ p q mine apart. done.kept p q mine (λ held. apart ((common p q).0 held).1);
}

pub pasted_apart : (old tile : Bitmap) → ShareNoPoint old.area tile.area → Pastes old old tile
pasted_apart old tile apart = record
    { same_area = refl; same_size = refl; same_kind = refl; pasted = λ p q mine its. absurd (apart p q mine its); kept = λ p q mine no. refl }

-- an area within another holds none but its points
within_holds : (c a : Area) (p q : ℤ) → IsWithin c a → Holds c p q → Holds a p q
within_holds c a p q w h =
    let left : a.x ≤ℤ p = omega (arith, ints, w.across, h.across.least) in
    let right : p <ℤ (a.x +ℤ pos a.w) = omega (arith, ints, w.across, h.across.below) in
    let bottom : a.y ≤ℤ q = omega (arith, ints, w.up, h.up.least) in
    let top : q <ℤ (a.y +ℤ pos a.h) = omega (arith, ints, w.up, h.up.below) in
    record { across = record { least = left; below = right }; up = record { least = bottom; below = top } }

-- the pixel at a point of a tile, counted from another point of its row
tile_pixel :
    (tile : Bitmap) (x y p : ℤ) (n : ℕ) → tile.area.x ≤ℤ x → Lies x n p
    → slice_index_or (chunk (place_of tile.area x y) n tile.pixels) (off x p) clear ≡ pixel_of tile p y
unfolding place_in_box
tile_pixel tile x y p n left on =
    let from : off tile.area.x p ≡ off tile.area.x x + off x p = omega (arith, ints) in
    get_or-chunk (place_of tile.area x y) n tile.pixels (off x p) clear (off_below x n p on)
    ∙ ap (λ (k : ℕ). slice_index_or tile.pixels k clear) (omega arith)

-- one more row
pub pasted_more :
    (c : Area) (i : ℕ) (old new newer tile : Bitmap) → i < c.h → IsWithin c old.area → IsWithin c tile.area
    → length (part_of tile c (c.y +ℤ pos i)) ≡ c.w
    → PastedIn (rows_below c i) old new tile → SetsRow new newer c.x (c.y +ℤ pos i) (part_of tile c (c.y +ℤ pos i))
    → PastedIn (rows_below c (i + 1)) old newer tile
pasted_more c i old new newer tile more mine its long done step = record {
  same_area = step.same_area ∙ done.same_area;
  same_size = step.same_size ∙ done.same_size;
  same_kind = step.same_kind ∙ done.same_kind;
  pasted = λ p q held.
      elim (cases_lt (off c.y q) i) [
        | inl below ↦
            let up_to_i : Lies c.y i q = record { least = held.up.least; below = omega (arith, ints, held.up.least) } in
            let in_part : Holds (rows_below c i) p q = record { across = held.across; up = up_to_i } in
            let in_all : Lies c.y c.h q = record { least = held.up.least; below = omega (arith, ints, held.up.least, held.up.below) } in
            let in_old = within_holds c old.area p q mine (record { across = held.across; up = in_all }) in
            step.kept p q (subst (λ (a : Area). Holds a p q) (sym done.same_area) in_old)
            (λ on. omega (arith, ints, on.up.least, held.up.least))
            ∙ done.pasted p q in_part
        | inr not_below ↦
            let row_of_q : q ≡ c.y +ℤ pos i = omega (arith, ints, held.up.least, held.up.below) in
            let on : Lies c.x (length (part_of tile c (c.y +ℤ pos i))) p = subst (λ (n : ℕ). Lies c.x n p) (sym long) held.across in
            rw row_of_q (step.set p on ∙ tile_pixel tile c.x (c.y +ℤ pos i) p c.w its.across.0 held.across)
      ];
  kept = λ p q held apart.
      step.kept p q (subst (λ (a : Area). Holds a p q) (sym done.same_area) held) (λ on. apart (row_holds p q on))
      ∙ done.kept p q held (λ in_part. apart (part_holds p q in_part));
}
  where
    y : ℤ
    y = c.y +ℤ pos i

    -- the new row and the rows below it lie in the part that is pasted now
    row_holds : (p q : ℤ) → Holds (area c.x y (length (part_of tile c y)) 1) p q → Holds (rows_below c (i + 1)) p q
    row_holds p q on = record {
      across = subst (λ (n : ℕ). Lies c.x n p) long on.across;
      up = record { least = omega (arith, ints, on.up.least); below = omega (arith, ints, on.up.below) };
    }

    part_holds : (p q : ℤ) → Holds (rows_below c i) p q → Holds (rows_below c (i + 1)) p q
    part_holds p q in_part =
        record { across = in_part.across; up = record { least = in_part.up.least; below = omega (arith, ints, in_part.up.below) } }
