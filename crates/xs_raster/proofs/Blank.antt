-- The two kinds of rasters: those with bytes, and clear ones without.
use Rattle.std.proofs.Common.{◌≡◌, ℕ, zero, suc, ◌+◌, ◌-◌, ◌*◌, ◌<◌, ◌≤◌, true, false, List, [], ◌∷◌, ◌++◌, length, take, drop, replicate, refl, sym, ap, ◌∙◌, arith}
use Rattle.std.proofs.lemmas.Bool.{false≢true}
use Rattle.std.proofs.lemmas.List.{take_all, take-replicate}
use Rattle.std.proofs.lemmas.Simd.{Each1-replicate, length-replicate}
use Rattle.std.specs.Simd.Lanes.{Each1, chunk}
use Rattle.xs_pixel.specs.Channels.{IsPixel, clear}
use Rattle.xs_pixel.specs.PixelRows.{pixels}
use Rattle.xs_rect.specs.Area.{Area}
use Rattle.xs_raster.specs.Bitmap.{Bitmap, bitmap, bitmap_of, blank, bytes_of, pixels_of, IsRaster}
use Rattle.xs_raster.proofs.Bytes.{bytes_of-pixels, pixels-replicate, clear_is_pixel}

-- what is held where there are bytes
pub record Backed (a : Area) (bytes : List ℕ) (r : Bitmap) : Type 0 where
  pub some : 0 < length bytes
  pub seen : bitmap a (pixels bytes) ≡ r

pub backed : (a : Area) (bytes : List ℕ) (r : Bitmap) → bitmap_of a bytes ≡ r → r.has_bytes ≡ true → Backed a bytes r
backed a [] r is has = absurd (false≢true (ap (λ (b : Bitmap). b.has_bytes) is ∙ has))
backed a (b ∷ rest) r is has = record { some = omega arith; seen = is }

-- and where there are none
pub unbacked : (a : Area) (bytes : List ℕ) (r : Bitmap) → bitmap_of a bytes ≡ r → r.has_bytes ≡ false → (bytes ≡ []) × (blank a ≡ r)
unbacked a [] r is has = (refl, is)
unbacked a (b ∷ rest) r is has = absurd (false≢true (sym has ∙ sym (ap (λ (b : Bitmap). b.has_bytes) is)))

-- bytes make a raster with bytes
pub bitmap-backed : (a : Area) (bytes : List ℕ) → 0 < length bytes → bitmap_of a bytes ≡ bitmap a (pixels bytes)
bitmap-backed a [] some = absurd (omega arith)
bitmap-backed a (b ∷ rest) some = refl

abbrev pub Counts : Type 0
Counts = (n : ℕ) (row : List ℕ) → length row ≡ 4 * n → length (pixels row) ≡ n

-- a raster has a pixel for each point
pub length-seen : (a : Area) (bytes : List ℕ) → Counts → IsRaster a bytes → length (pixels_of a bytes) ≡ a.w * a.h
length-seen a [] counts is = length-replicate (a.w * a.h) clear
length-seen a (b ∷ rest) counts is = counts (a.w * a.h) (b ∷ rest) (is.whole (omega arith))

-- each of them is premultiplied
pub premultiplied-seen : (a : Area) (bytes : List ℕ) → IsRaster a bytes → Each1 IsPixel (pixels_of a bytes)
premultiplied-seen a [] is = Each1-replicate IsPixel (a.w * a.h) clear clear_is_pixel
premultiplied-seen a (b ∷ rest) is = is.premultiplied

drop-replicate : {X : Type 0} (m n : ℕ) (x : X) → drop m (replicate n x) ≡ replicate (n - m) x
drop-replicate zero n x = let e : n - 0 ≡ n = omega arith in rw e refl
drop-replicate (suc m) zero x = let e : 0 - suc m ≡ 0 = omega arith in rw e refl
drop-replicate (suc m) (suc n) x = let e : suc n - suc m ≡ n - m = omega arith in rw e (drop-replicate m n x)

-- a part of clear pixels
pub chunk-replicate : {X : Type 0} (i n all : ℕ) (x : X) → i + n ≤ all → chunk i n (replicate all x) ≡ replicate n x
chunk-replicate i n all x fits = rw (drop-replicate i all x) (take-replicate n (all - i) x (omega arith))

-- the bytes of clear pixels
pub bytes_of-replicate : (n : ℕ) → bytes_of (replicate n clear) ≡ replicate (4 * n) 0
bytes_of-replicate n =
    ap bytes_of (sym (pixels-replicate (4 * n) n refl)) ∙ bytes_of-pixels n (replicate (4 * n) 0) (length-replicate (4 * n) 0)

pub premultiplied-replicate : (n : ℕ) → Each1 IsPixel (pixels (replicate (4 * n) 0))
premultiplied-replicate n = rw (pixels-replicate (4 * n) n refl) (Each1-replicate IsPixel n clear clear_is_pixel)

-- where a list grows by so many bytes 0, it gains those of the clear pixels
pub cleared_more :
    (to new : List ℕ) (len had w h : ℕ) (r : Bitmap) → len ≡ length to → had ≡ length to → w ≡ r.area.w → h ≡ r.area.h → r ≡ blank r.area
    → new ≡ take (len + 4 * (w * h)) to ++ replicate (len + 4 * (w * h) - had) 0 → new ≡ to ++ bytes_of r.pixels
cleared_more to new len had w h r long before across up is grows =
    let more : len + 4 * (w * h) - had ≡ 4 * (w * h) = omega arith in
    let kept : take (len + 4 * (w * h)) to ≡ to = take_all (len + 4 * (w * h)) to (omega arith) in
    grows ∙ rw (kept, more, across, up) (ap (λ bytes. to ++ bytes) (sym (bytes_of-replicate (r.area.w * r.area.h)) ∙ ap (λ (b : Bitmap). bytes_of b.pixels) (sym is)))

-- as many other pixels make a raster too
pub written : (a : Area) (bytes new : List ℕ) → IsRaster a bytes → 0 < length bytes → length new ≡ length bytes → Each1 IsPixel (pixels new) → IsRaster a new
written a bytes new is some same fine = record {
  whole = λ _. same ∙ is.whole some;
  premultiplied = fine;
  small = λ none. absurd (omega arith);
}
