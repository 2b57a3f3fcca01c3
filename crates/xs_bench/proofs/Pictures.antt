-- Rasters of drawings that are moved.
use Rattle.std.proofs.Common.{◌≡◌, ℕ, zero, suc, ◌*◌, ◌<◌, ℤ, ◌-ℤ◌, Bool, true, false, if◌then◌else◌, List, [], ◌∷◌, length, map, get_or, refl, sym, ap, ◌∙◌, subst, inl, inr, arith}
use Rattle.std.specs.Simd.Lanes.{Each1, number_l}
use Rattle.std.proofs.lemmas.Bool.{cases_Bool, cases_lt}
use Rattle.std.proofs.lemmas.List.{get_or_past}
use Rattle.std.proofs.lemmas.Simd.{Each1-get_or, Each1-from_get_or}
use Rattle.xs_base.proofs.ByFours.{ReadsFours}
use Rattle.xs_pixel.specs.Channels.{Channels, IsPixel, channels, clear}
use Rattle.xs_pixel.specs.Picture.{Picture, at_point, is_in_box, place_in_box}
use Rattle.xs_pixel.specs.PixelRows.{pixels}
use Rattle.xs_pixel.specs.Points.{Point}
use Rattle.xs_pixel.proofs.PixelRowLemmas.{length-pixels, pixels-short}
use Rattle.xs_cm32.specs.Word.{colour_under, mixed}
use Rattle.xs_cm32.specs.WordRows.{words}
use Rattle.xs_palette.specs.Styles.{style_of}
use Rattle.xs_rect.specs.Area.{Area}
use Rattle.xs_raster.specs.Bitmap.{Bitmap, bitmap, blank, pixel_of, place_of}
use Rattle.xs_rawfile.specs.declared.drawing.RawKind.{RawKind}
use Rattle.xs_rawfile.specs.declared.drawing.RawKind.TheVariants.{Colour, Cm32}
use Rattle.xs_rawfile.specs.Raw.{Fills, IsRaw, Raw}
use Rattle.xs_rawfile.specs.Held.{plain_picture, words_by, words_of}
use Rattle.xs_bench.specs.Cells.{HoldBytes, LiesApart, pixel_image, word_image}
use Rattle.xs_bench.specs.Shows.{Shows}
use Rattle.xs_bench.proofs.Blank.{place_below, shows_clear, clear_is_pixel}
use Rattle.xs_bench.proofs.Boxes.{point_of}
use Rattle.xs_bench.proofs.Cells.{item_held}

pixels_by_fours : ReadsFours channels pixels
pixels_by_fours = record { short = pixels-short; four = λ r g b m xs. refl }

abbrev word : ℕ → ℕ → ℕ → ℕ → ℕ
word a b c d = number_l 256 (a ∷ b ∷ c ∷ d ∷ [])

words_by_fours : ReadsFours word words
words_by_fours = record { short = short; four = λ a b c d xs. refl }
  where
    short : (xs : List ℕ) → length xs < 4 → words xs ≡ []
    short [] few = refl
    short (a ∷ []) few = refl
    short (a ∷ b ∷ []) few = refl
    short (a ∷ b ∷ c ∷ []) few = refl
    short (a ∷ b ∷ c ∷ d ∷ xs) few = absurd (omega arith)

-- ---- beyond the box

at_outside :
    {A : Type 0} (p : Picture) (items : List A) (outside : A) (x y : ℤ) → is_in_box p.x0 p.y0 p.w p.h x y ≡ false
    → at_point p items outside x y ≡ outside
unfolding at_point
at_outside p items outside x y apart = rw apart refl

pub pixels_apart : (on : Area) (g : Raw) (to : Point) (r : Bitmap) → LiesApart on g to → r ≡ blank on → Shows on (pixel_image g to) r
pixels_apart on g to r apart is =
    shows_clear on (pixel_image g to) r is
    (λ x y held. at_outside (plain_picture g) (pixels g.bytes) clear (x -ℤ to.x) (y -ℤ to.y) (apart x y held))

pub words_apart :
    (on : Area) (g : Raw) (palette : List Channels) (to : Point) (r : Bitmap) → LiesApart on g to → r ≡ blank on
    → Shows on (word_image g palette to) r
words_apart on g palette to r apart is =
    shows_clear on (word_image g palette to) r is
    (λ x y held. at_outside (plain_picture g) (map (colour_under (style_of palette)) (words_of g)) clear (x -ℤ to.x) (y -ℤ to.y) (apart x y held))

-- ---- the pixels of a colour drawing

pub pixels_shown :
    (on : Area) (g : Raw) (to : Point) (bytes : List ℕ) (r : Bitmap) → HoldBytes on g to bytes → IsRaw g → r ≡ bitmap on (pixels bytes)
    → Shows on (pixel_image g to) r
pixels_shown on g to bytes r hold raw is = record {
  area_is = ap (λ (b : Bitmap). b.area) is;
  pixels_are = λ x y held.
      ap (λ (b : Bitmap). pixel_of b x y) is
      ∙ item_held channels pixels pixels_by_fours clear refl on g to bytes hold raw.whole x y held (place_below on x y held);
}

-- an item of a list of pixels at a point
IsPixel-at_point : (p : Picture) (items : List Channels) (x y : ℤ) → Each1 IsPixel items → IsPixel (at_point p items clear x y)
unfolding at_point
IsPixel-at_point p items x y valid =
    elim (cases_Bool (is_in_box p.x0 p.y0 p.w p.h x y)) [
      | inl inside ↦ rw inside (item_valid (place_in_box p.x0 p.y0 p.w x y))
      | inr outside ↦ rw outside clear_is_pixel
    ]
  where
    item_valid : (k : ℕ) → IsPixel (get_or items k clear)
    item_valid k = elim (cases_lt k (length items)) [
      | inl below ↦ Each1-get_or IsPixel items k clear below valid
      | inr past ↦ rw (get_or_past items k clear past) clear_is_pixel
    ]

pub pixels_valid :
    (on : Area) (g : Raw) (to : Point) (bytes : List ℕ) → HoldBytes on g to bytes → IsRaw g → g.kind ≡ Colour → 0 < on.w
    → Each1 IsPixel (pixels bytes)
pixels_valid on g to bytes hold raw kind some =
    Each1-from_get_or IsPixel (pixels bytes) clear
    (λ k below.
    let long = length-pixels (on.w * on.h) bytes hold.whole in
    let p = point_of on k some (omega arith) in
    let at = item_held channels pixels pixels_by_fours clear refl on g to bytes hold raw.whole p.x p.y p.held (place_below on p.x p.y p.held) in
    let fills : Each1 IsPixel (pixels g.bytes) = subst (λ (k : RawKind). Fills k g.bytes) kind raw.fills in
    subst IsPixel (sym at ∙ ap (λ (n : ℕ). get_or (pixels bytes) n clear) p.place)
    (IsPixel-at_point (plain_picture g) (pixels g.bytes) (p.x -ℤ to.x) (p.y -ℤ to.y) fills))

-- ---- the words of a CM32 drawing

-- word 0 is clear under each palette
word_none : (palette : List Channels) → colour_under (style_of palette) 0 ≡ clear
unfolding mixed
word_none palette = refl

coloured-at :
    (palette : List Channels) (ws : List ℕ) (k : ℕ)
    → get_or (map (colour_under (style_of palette)) ws) k clear ≡ colour_under (style_of palette) (get_or ws k 0)
coloured-at palette [] k = sym (word_none palette)
coloured-at palette (w ∷ ws) zero = refl
coloured-at palette (w ∷ ws) (suc k) = coloured-at palette ws k

coloured-point :
    (p : Picture) (palette : List Channels) (ws : List ℕ) (x y : ℤ)
    → colour_under (style_of palette) (at_point p ws 0 x y) ≡ at_point p (map (colour_under (style_of palette)) ws) clear x y
unfolding at_point
coloured-point p palette ws x y = chosen (is_in_box p.x0 p.y0 p.w p.h x y) (place_in_box p.x0 p.y0 p.w x y)
  where
    chosen :
        (inside : Bool) (k : ℕ)
        → colour_under (style_of palette) (if inside then get_or ws k 0 else 0)
        ≡ (if inside then get_or (map (colour_under (style_of palette)) ws) k clear else clear)
    chosen true k = sym (coloured-at palette ws k)
    chosen false k = word_none palette

pub words_shown :
    (on : Area) (g : Raw) (palette : List Channels) (to : Point) (bytes : List ℕ) (r : Bitmap) → HoldBytes on g to bytes → IsRaw g → g.kind ≡ Cm32
    → r ≡ bitmap on (map (colour_under (style_of palette)) (words bytes)) → Shows on (word_image g palette to) r
words_shown on g palette to bytes r hold raw kind is = record {
  area_is = ap (λ (b : Bitmap). b.area) is;
  pixels_are = λ x y held.
      ap (λ (b : Bitmap). pixel_of b x y) is
      ∙ coloured-at palette (words bytes) (place_of on x y)
      ∙ ap (colour_under (style_of palette))
      (item_held word words words_by_fours 0 refl on g to bytes hold raw.whole x y held (place_below on x y held))
      ∙ coloured-point (plain_picture g) palette (words g.bytes) (x -ℤ to.x) (y -ℤ to.y)
      ∙ ap (λ (k : RawKind). at_point (plain_picture g) (map (colour_under (style_of palette)) (words_by k g.bytes)) clear (x -ℤ to.x) (y -ℤ to.y)) (sym kind);
}
