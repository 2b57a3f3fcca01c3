-- What putting a row or pasting a tile does to the pixels at points.
use Rattle.std.proofs.Common.{◌≡◌, ℕ, ◌+◌, ◌-◌, ◌*◌, ◌<◌, ◌≤◌, ℤ, ◌-ℤ◌, unsigned_abs, true, List, length, slice_index_or, refl, inl, inr, arith}
use Rattle.std.specs.Simd.Lanes.{put_chunk}
use Rattle.std.proofs.lemmas.Bool.{cases_lt}
use Rattle.std.proofs.lemmas.Int.{ints}
use Rattle.std.proofs.lemmas.Simd.{length-put_chunk}
use Rattle.xs_pixel.specs.Channels.{Channels, clear}
use Rattle.xs_pixel.specs.Picture.{place_in_box}
use Rattle.xs_rect.specs.Area.{Area, area, Holds, IsPart, Lies}
use Rattle.xs_raster.specs.Bitmap.{Bitmap, bitmap, place_of, pixel_of}
use Rattle.xs_raster.specs.Changes.{SetsRow}
use Rattle.xs_raster.proofs.Places.{fits_in_rows, put_found, put_below, put_left, put_right, put_above}

-- how far a place lies from the first one
abbrev pub off : ℤ → ℤ → ℕ
off from z = unsigned_abs (z -ℤ from)

pub off_below : (from : ℤ) (len : ℕ) (z : ℤ) → Lies from len z → off from z < len
off_below from len z l = omega (arith, ints)

off_part : (from : ℤ) (len : ℕ) (outer : ℤ) (outer_len : ℕ) → IsPart from len outer outer_len → off outer from + len ≤ outer_len
off_part from len outer outer_len p = omega (arith, ints)

-- the place of a point and what follows it to the right stay within the area
pub place_fits : (a : Area) (x y : ℤ) (n : ℕ) → IsPart x n a.x a.w → Lies a.y a.h y → place_of a x y + n ≤ a.w * a.h
unfolding place_in_box
place_fits a x y n across up = fits_in_rows a.w a.h (off a.y y) (off a.x x) n (off_below a.y a.h y up) (off_part x n a.x a.w across)

-- the points of the row have its pixels
row_found : (a : Area) (x y p : ℤ) (ps row : List Channels) → IsPart x (length row) a.x a.w → Lies a.y a.h y → a.w * a.h ≡ length ps → Lies x (length row) p
    → pixel_of (bitmap a (put_chunk (place_of a x y) ps row)) p y ≡ slice_index_or row (unsigned_abs (p -ℤ x)) clear
unfolding place_in_box
row_found a x y p ps row across up all on =
    let from : off a.x p ≡ off a.x x + off x p = omega (arith, ints) in
    let fits = place_fits a x y (length row) across up in
    let within = off_below x (length row) p on in
    let at : off a.x p - off a.x x ≡ off x p = omega arith in
    rw (← at) (put_found a.w (off a.y y) (off a.x x) (off a.x p) ps row clear (omega arith) (omega arith) (omega arith))

-- every other point keeps its pixel
row_kept :
    (a : Area) (x y p q : ℤ) (ps row : List Channels) → IsPart x (length row) a.x a.w → Lies a.y a.h y
    → Holds a p q → ¬ Holds (area x y (length row) 1) p q
    → pixel_of (bitmap a (put_chunk (place_of a x y) ps row)) p q ≡ pixel_of (bitmap a ps) p q
unfolding place_in_box
row_kept a x y p q ps row across up held apart =
    let r = off a.y y in
    let c = off a.x x in
    let column = off_below a.x a.w p held.across in
    let room = off_part x (length row) a.x a.w across in
    elim (cases_lt (off a.y q) r) [
      | inl below ↦ put_below a.w r c (off a.y q) (off a.x p) ps row clear below column
      | inr not_below ↦ elim (cases_lt r (off a.y q)) [
        | inl above ↦ put_above a.w r c (off a.y q) (off a.x p) ps row clear above room
        | inr not_above ↦
            let same : off a.y q ≡ r = omega arith in
            rw same (elim (cases_lt (off a.x p) c) [
              | inl left ↦ put_left a.w r c (off a.x p) ps row clear left
              | inr not_left ↦ elim (cases_lt (off a.x p) (c + length row)) [
                | inl on ↦
                    let across_row : Lies x (length row) p = record { least = omega (arith, ints); below = omega (arith, ints) } in
                    let on_row : Lies y 1 q = record { least = omega (arith, ints); below = omega (arith, ints) } in
                    absurd (apart (record { across = across_row; up = on_row }))
                | inr right ↦ put_right a.w r c (off a.x p) ps row clear right
              ]
            ])
      ]
    ]

-- putting a row into the list sets its points
pub sets_row :
    (old : Bitmap) (x y : ℤ) (row : List Channels) → IsPart x (length row) old.area.x old.area.w
    → Lies old.area.y old.area.h y → old.area.w * old.area.h ≡ length old.pixels → true ≡ old.has_bytes
    → SetsRow old (bitmap old.area (put_chunk (place_of old.area x y) old.pixels row)) x y row
sets_row old x y row across up all held = record {
  same_area = refl;
  same_size = length-put_chunk (place_of old.area x y) old.pixels row;
  same_kind = held;
  set = λ p on. row_found old.area x y p old.pixels row across up all on;
  kept = λ p q held apart. row_kept old.area x y p q old.pixels row across up held apart;
}
