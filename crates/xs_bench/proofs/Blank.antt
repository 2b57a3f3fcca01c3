-- Rasters that are clear, and rasters of pixels.
use Rattle.std.proofs.Common.{◌≡◌, ℕ, ◌*◌, ◌<◌, ℤ, ◌-ℤ◌, unsigned_abs, Result, Ok, Err, IfOk, length, replicate, get_or, sym, ap, ap₂, ◌∙◌, subst, inl, inr, arith}
use Rattle.std.specs.Simd.Lanes.{Each1, zip2}
use Rattle.std.proofs.lemmas.Bool.{cases_lt}
use Rattle.std.proofs.lemmas.Int.{ints}
use Rattle.std.proofs.lemmas.Nat.{mul-add-lt}
use Rattle.std.proofs.lemmas.List.{get_or_past, get_or-replicate}
use Rattle.std.proofs.lemmas.Simd.{Each1-get_or, get_or-zip2, length-replicate}
use Rattle.xs_pixel.specs.Channels.{Channels, IsPixel, clear}
use Rattle.xs_pixel.specs.Images.{Image, blurred}
use Rattle.xs_blur.specs.Blurs.{Blurs}
use Rattle.xs_pixel.specs.Picture.{place_in_box}
use Rattle.xs_pixel.specs.Points.{Point, point}
use Rattle.xs_rect.specs.Area.{Area, Holds}
use Rattle.xs_raster.specs.Bitmap.{Bitmap, bitmap, blank, place_of, pixel_of}
use Rattle.xs_bench.specs.Inputs.{raster_image}
use Rattle.xs_bench.specs.Shows.{Shows}

-- an item of a list of clear pixels, and past it
clear_at : (n k : ℕ) → get_or (replicate n clear) k clear ≡ clear
clear_at n k = elim (cases_lt k n) [
  | inl below ↦ get_or-replicate n k clear clear below
  | inr past ↦ get_or_past (replicate n clear) k clear (omega (arith, length-replicate n clear))
]

pub blank_clear : (on : Area) (x y : ℤ) → pixel_of (blank on) x y ≡ clear
blank_clear on x y = clear_at (on.w * on.h) (place_of on x y)

-- a raster that is clear shows an image that is clear
pub shows_clear : (on : Area) (image : Image) (r : Bitmap) → r ≡ blank on → ((x y : ℤ) → Holds on x y → image (point x y) ≡ clear) → Shows on image r
shows_clear on image r is clears = record {
  area_is = ap (λ (b : Bitmap). b.area) is;
  pixels_are = λ x y held. ap (λ (b : Bitmap). pixel_of b x y) is ∙ blank_clear on x y ∙ sym (clears x y held);
}

pub clear_is_pixel : IsPixel clear
clear_is_pixel = record { red = omega arith; green = omega arith; blue = omega arith; top = omega arith }

-- each pixel of a raster is a pixel
pub IsPixel-pixel_of : (r : Bitmap) (x y : ℤ) → Each1 IsPixel r.pixels → IsPixel (pixel_of r x y)
IsPixel-pixel_of r x y valid =
    elim (cases_lt (place_of r.area x y) (length r.pixels)) [
      | inl below ↦ Each1-get_or IsPixel r.pixels (place_of r.area x y) clear below valid
      | inr past ↦ rw (get_or_past r.pixels (place_of r.area x y) clear past) clear_is_pixel
    ]

-- ---- what a raster of a list of pixels shows

-- a point of an area has a place among its points
pub place_below : (on : Area) (x y : ℤ) → Holds on x y → place_of on x y < on.w * on.h
unfolding place_in_box
place_below on x y held =
    mul-add-lt (unsigned_abs (y -ℤ on.y)) on.w (unsigned_abs (x -ℤ on.x)) on.h
    (omega (arith, ints, held.up.least, held.up.below)) (omega (arith, ints, held.across.least, held.across.below))

pub shows_one : (on : Area) (p : Channels) (r : Bitmap) (n : ℕ) → r ≡ bitmap on (replicate n p) → n ≡ on.w * on.h → Shows on (λ q. p) r
shows_one on p r n is all = record {
  area_is = ap (λ (b : Bitmap). b.area) is;
  pixels_are = λ x y held.
      let below : place_of on x y < n = omega (arith, place_below on x y held) in
      ap (λ (b : Bitmap). pixel_of b x y) is ∙ get_or-replicate n (place_of on x y) p clear below;
}

pub shows_zip :
    (on : Area) (f : Channels → Channels → Channels) (first second r : Bitmap) → r ≡ bitmap on (zip2 f first.pixels second.pixels)
    → first.area ≡ on → second.area ≡ on → length first.pixels ≡ on.w * on.h → length second.pixels ≡ on.w * on.h
    → Shows on (λ q. f (raster_image first q) (raster_image second q)) r
shows_zip on f first second r is one two ones twos = record {
  area_is = ap (λ (b : Bitmap). b.area) is;
  pixels_are = λ x y held.
      let place = place_of on x y in
      let below = place_below on x y held in
      ap (λ (b : Bitmap). pixel_of b x y) is
      ∙ get_or-zip2 f first.pixels second.pixels place clear clear clear (omega arith) (omega arith)
      ∙ ap₂ f
      (ap (λ (a : Area). get_or first.pixels (place_of a x y) clear) (sym one))
      (ap (λ (a : Area). get_or second.pixels (place_of a x y) clear) (sym two));
}

-- an answer shows an image that agrees
pub shows_same :
    {E : Type 0} (on other : Area) (f g : Image) (answer : Result Bitmap E) → on ≡ other → ((q : Point) → f q ≡ g q)
    → IfOk answer (Shows on f) → IfOk answer (Shows other g)
shows_same on other f g (Err e) same agree shows = tt
shows_same on other f g (Ok r) same agree shows = record {
  area_is = shows.area_is ∙ same;
  pixels_are = λ x y held. shows.pixels_are x y (subst (λ (a : Area). Holds a x y) (sym same) held) ∙ agree (point x y);
}

-- a raster that is clear has the clear image
pub image_clear : (r : Bitmap) (q : Point) → r ≡ blank r.area → raster_image r q ≡ clear
image_clear r q is = ap (λ (b : Bitmap). pixel_of b q.x q.y) is ∙ blank_clear r.area q.x q.y

-- an answer with a blur of a raster shows the blurred image
pub shows_blur :
    {E : Type 0} (on : Area) (n : ℕ) (input : Bitmap) (answer : Result Bitmap E) → IfOk answer (λ r. r.area ≡ on) → IfOk answer (Blurs n input)
    → IfOk answer (Shows on (blurred n (raster_image input)))
shows_blur on n input (Err e) area blurs = tt
shows_blur on n input (Ok r) area blurs = record {
  area_is = area;
  pixels_are = λ x y held. blurs.each x y (subst (λ (a : Area). Holds a x y) (sym area) held);
}
