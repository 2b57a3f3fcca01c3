-- The bytes of a frame, pixel by pixel and line by line
use Rattle.std.proofs.Common.{ℕ, ◌≡◌, ◌+◌, ℤ, pos, ◌+ℤ◌, List, [], ◌∷◌, ◌++◌, append_assoc, length, map, flat_map, refl, sym, ap, ap₂, ◌∙◌, arith}
use Rattle.std.specs.List.{range_with_len}
use Rattle.std.proofs.lemmas.List.FromFn.{map-range_with_len_more}
use Rattle.xs_pixel.specs.Channels.{Channels}
use Rattle.xs_pixel.specs.PixelRows.{pixels}
use Rattle.xs_raster.specs.Bitmap.{bytes_of}
use Rattle.xs_rawfile.specs.Frame.{frame_header_of}
use Rattle.xs_scene.specs.Records.{SceneRecord}
use Rattle.xs_pixel.specs.Picture.{Pictures}
use Rattle.xs_base.specs.declared.limits.TheConstants.{DEEPEST_NEST}
use Rattle.xs_meaning.specs.Palettes.{none_dropped}
use Rattle.xs_pixel.specs.Points.{Point, point}
use Rattle.xs_meaning.specs.RowValues.{row_of, frame_pixel, camera_at}
use Rattle.xs_step.specs.declared.spot.At.TheVariants.{Row}
use Rattle.xs_step.specs.Spots.{spot}
use Rattle.xs_direct.specs.Frames.{frame_file, frame_line}
use Rattle.xs_direct.specs.Pictures.{pictures_in}
use Rattle.xs_direct.specs.Values.{dropped_in, image_in}
use Rattle.xs_direct.specs.declared.walk.Walk.{Walk}
use Rattle.xs_direct.proofs.SumLemmas.{lines-push}

-- a walk through all nested sheets, from the first sheet on and without filters
pub row-whole :
    {K : Type 0} (w : Walk K) (row : ℕ) (p : Point) → w.depth ≡ DEEPEST_NEST → w.spot ≡ spot 0 Row row → dropped_in w ≡ none_dropped
    → image_in w p ≡ row_of w.scene.now (pictures_in w.drawings.now) 0 row p
unfolding image_in
row-whole w row p deep at unfiltered = rw (deep, at, unfiltered) refl

bytes_of-append : (ps qs : List Channels) → bytes_of (ps ++ qs) ≡ bytes_of ps ++ bytes_of qs
bytes_of-append [] qs = refl
bytes_of-append (p ∷ ps) qs = ap (λ bytes. p.r ∷ p.g ∷ p.b ∷ p.m ∷ bytes) (bytes_of-append ps qs)

-- four bytes of one pixel
bytes_of-pixel : (bytes : List ℕ) (p : Channels) → length bytes ≡ 4 → pixels bytes ≡ p ∷ [] → bytes ≡ bytes_of (p ∷ [])
bytes_of-pixel [] p four one = absurd (omega arith)
bytes_of-pixel (a ∷ []) p four one = absurd (omega arith)
bytes_of-pixel (a ∷ b ∷ []) p four one = absurd (omega arith)
bytes_of-pixel (a ∷ b ∷ c ∷ []) p four one = absurd (omega arith)
bytes_of-pixel (a ∷ b ∷ c ∷ d ∷ []) p four one = ap (λ (q : Channels). bytes_of (q ∷ [])) (let same : record { r = a; g = b; b = c; m = d } ≡ p = cc in same)
bytes_of-pixel (a ∷ b ∷ c ∷ d ∷ e ∷ rest) p four one = absurd (omega arith)

after :
    (start bytes new more : List ℕ) (ps qs all : List Channels) → bytes ≡ start ++ bytes_of ps → new ≡ bytes ++ more
    → more ≡ bytes_of qs → all ≡ ps ++ qs → new ≡ start ++ bytes_of all
after start bytes new more ps qs all were is added together =
    is ∙ ap₂ (λ xs ys. xs ++ ys) were added ∙ append_assoc start (bytes_of ps) (bytes_of qs)
    ∙ ap (λ xs. start ++ xs) (sym (bytes_of-append ps qs) ∙ ap bytes_of (sym together))

pub pixel_more :
    (start bytes new more : List ℕ) (f : ℕ → Channels) (i : ℕ) (p : Channels) → bytes ≡ start ++ bytes_of (map f (range_with_len 0 i))
    → new ≡ bytes ++ more → length more ≡ 4 → pixels more ≡ p ∷ [] → p ≡ f i
    → new ≡ start ++ bytes_of (map f (range_with_len 0 (i + 1)))
pixel_more start bytes new more f i p were is four one pixel =
    after start bytes new more (map f (range_with_len 0 i)) (f i ∷ []) (map f (range_with_len 0 (i + 1))) were is
    (bytes_of-pixel more (f i) four (one ∙ ap (λ q. q ∷ []) pixel)) (map-range_with_len_more f 0 i i (omega arith))

pub line_more :
    (start bytes new : List ℕ) (line : ℕ → List Channels) (y : ℕ) → bytes ≡ start ++ bytes_of (flat_map line (range_with_len 0 y))
    → new ≡ bytes ++ bytes_of (line y) → new ≡ start ++ bytes_of (flat_map line (range_with_len 0 (y + 1)))
line_more start bytes new line y were is =
    after start bytes new (bytes_of (line y)) (flat_map line (range_with_len 0 y)) (line y) (flat_map line (range_with_len 0 (y + 1)))
    were is refl (lines-push line y)

-- the point of the row that a point of the frame shows
pub framed :
    (s : SceneRecord) (px : Pictures) (row x y : ℕ) (cx cy px' py' : ℤ) → px' ≡ pos x +ℤ cx → py' ≡ pos y +ℤ cy
    → point cx cy ≡ camera_at s row
    → row_of s px 0 row (point px' py') ≡ frame_pixel s px row (point (pos x) (pos y))
framed s px row x y cx cy px' py' across up camera =
    ap₂ (λ (u v : ℤ). row_of s px 0 row (point u v)) across up
    ∙ ap (λ (c : Point). row_of s px 0 row (point (pos x +ℤ c.x) (pos y +ℤ c.y))) camera

-- the bytes before the pixels, and the lines
pub frame-file :
    (s : SceneRecord) (px : Pictures) (row w h : ℕ) (header bytes : List ℕ) → header ≡ frame_header_of w h
    → bytes ≡ header ++ bytes_of (flat_map (λ y. frame_line s px row y w) (range_with_len 0 h))
    → w ≡ s.camera.w → h ≡ s.camera.h → bytes ≡ frame_file s px row
unfolding frame_file
frame-file s px row w h header bytes begins is across up =
    is ∙ ap (λ xs. xs ++ bytes_of (flat_map (λ y. frame_line s px row y w) (range_with_len 0 h))) begins
    ∙ ap₂ (λ (w h : ℕ). frame_header_of w h ++ bytes_of (flat_map (λ y. frame_line s px row y w) (range_with_len 0 h))) across up
