-- The sum of the pixels of frames.
use Rattle.std.proofs.Common.{◌≡◌, ℕ, ◌+◌, ◌-◌, ◌*◌, ◌^◌, ◌<◌, ◌≤◌, List, [], ◌∷◌, ◌++◌, map, flat_map, length, get_or, take, drop, min, rules, sum, sum_by, Option, Some, pos, refl, sym, ap, ◌∙◌, arith}
use Rattle.std.specs.List.{range_with_len}
use Rattle.std.proofs.lemmas.List.FromFn.{length-range_with_len}
use Rattle.std.proofs.lemmas.List.Sums.{sum_by_from, sum_by-append, sum_by-cons, sum_by_push}
use Rattle.std.proofs.lemmas.List.{take_more, drop-append-le}
use Rattle.xs_rawfile.specs.declared.frame.TheConstants.{FRAME_HEADER}
use Rattle.xs_outside.specs.declared.object.Object.{Object}
use Rattle.xs_pixel.specs.Channels.{Channels, IsPixel}
use Rattle.xs_pixel.specs.Picture.{Pictures}
use Rattle.xs_pixel.specs.Points.{Point, point}
use Rattle.xs_raster.specs.Bitmap.{bytes_of}
use Rattle.xs_scene.specs.Records.{SceneRecord}
use Rattle.xs_meaning.specs.RowValues.{frame_pixel, frame_of}
use Rattle.xs_top.specs.Frames.{frame_at, frame_file}
use Rattle.xs_top.specs.Trace.{added, pixel_sum, summed}

-- ---- one frame

bytes_of-append : (ps qs : List Channels) → bytes_of (ps ++ qs) ≡ bytes_of ps ++ bytes_of qs
bytes_of-append [] qs = refl
bytes_of-append (p ∷ ps) qs = ap (λ l. p.r ∷ p.g ∷ p.b ∷ p.m ∷ l) (bytes_of-append ps qs)

sum_four : (a b c d : ℕ) (xs : List ℕ) → sum (a ∷ b ∷ c ∷ d ∷ xs) ≡ a + b + c + d + sum xs
sum_four a b c d xs = let all = sum_by_from (λ x. x) (0 + a + b + c + d) xs in omega (arith, all)

row_sum : (f : ℕ → Channels) (xs : List ℕ) → ((x : ℕ) → IsPixel (f x)) → sum (bytes_of (map f xs)) ≤ 1020 * length xs
row_sum f [] pixels = omega arith
row_sum f (x ∷ xs) pixels =
    let p = pixels x in
    let rest = row_sum f xs pixels in
    let all = sum_four (f x).r (f x).g (f x).b (f x).m (bytes_of (map f xs)) in
    omega (arith, p.red, p.green, p.blue, p.top, rest, all)

rows_sum : (f : ℕ → List Channels) (most : ℕ) (ys : List ℕ) → ((y : ℕ) → sum (bytes_of (f y)) ≤ most) → sum (bytes_of (flat_map f ys)) ≤ length ys * most
rows_sum f most [] few = omega arith
rows_sum f most (y ∷ ys) few =
    let here = few y in
    let rest = rows_sum f most ys few in
    let all : sum (bytes_of (f y ++ flat_map f ys)) ≡ sum (bytes_of (f y)) + sum (bytes_of (flat_map f ys)) =
    ap sum (bytes_of-append (f y) (flat_map f ys)) ∙ sum_by-append (λ x. x) (bytes_of (f y)) (bytes_of (flat_map f ys)) in
    omega (arith, here, rest, all)

module _ (s : SceneRecord) (pictures : Pictures) (pixels : (row : ℕ) (p : Point) → IsPixel (frame_pixel s pictures row p)) where
  pub frame_sum : (base : List ℕ) (row : ℕ) → pixel_sum (frame_at s pictures base row).bytes ≤ s.camera.h * (1020 * s.camera.w)
  unfolding frame_file
  frame_sum base row =
      let across = range_with_len 0 s.camera.w in
      let up = range_with_len 0 s.camera.h in
      let at : ℕ → ℕ → Channels = λ y x. frame_pixel s pictures row (point (pos x) (pos y)) in
      let all : sum (bytes_of (flat_map (λ y. map (at y) across) up)) ≤ length up * (1020 * length across) =
      rows_sum (λ y. map (at y) across) (1020 * length across) up (λ y. row_sum (at y) across (λ x. pixels row (point (pos x) (pos y)))) in
      rw (length-range_with_len 0 s.camera.w, length-range_with_len 0 s.camera.h) at all

  pub frames_sum : (base rows : List ℕ)
      → sum_by (λ (frame : Object). pixel_sum frame.bytes) (map (frame_at s pictures base) rows) ≤ length rows * (s.camera.h * (1020 * s.camera.w))
  frames_sum base [] = omega arith
  frames_sum base (row ∷ rows) =
      let here = frame_sum base row in
      let rest = frames_sum base rows in
      let all = sum_by-cons (λ (frame : Object). pixel_sum frame.bytes) (frame_at s pictures base row) (map (frame_at s pictures base) rows) in
      omega (arith, here, rest, all)

-- ---- one byte more

pub more_pixels : (total s i : ℕ) (frame : List ℕ) → FRAME_HEADER ≤ i → i < length frame → s ≡ added total (sum (drop FRAME_HEADER (take i frame)))
    → min (s + get_or frame i 0) (2 ^ 64 - 1) ≡ added total (sum (drop FRAME_HEADER (take (i + 1) frame)))
more_pixels total s i frame behind there so =
    let count : FRAME_HEADER ≤ length (take i frame) = search (rules, behind, there) in
    let more : drop FRAME_HEADER (take (i + 1) frame) ≡ drop FRAME_HEADER (take i frame) ++ get_or frame i 0 ∷ [] =
    ap (drop FRAME_HEADER) (take_more frame i 0 there) ∙ drop-append-le FRAME_HEADER (take i frame) (get_or frame i 0 ∷ []) count in
    let all : sum (drop FRAME_HEADER (take (i + 1) frame)) ≡ sum (drop FRAME_HEADER (take i frame)) + get_or frame i 0 =
    ap sum more ∙ sum_by_push (λ x. x) (drop FRAME_HEADER (take i frame)) (get_or frame i 0) in
    omega (arith, all, so)

-- ---- the sum of many, which does not come to its end

pub summed_whole : (frames : List Object) (n : ℕ) → n + sum_by (λ (frame : Object). pixel_sum frame.bytes) frames < 2 ^ 64
    → summed (Some n) frames ≡ Some (n + sum_by (λ (frame : Object). pixel_sum frame.bytes) frames)
summed_whole [] n few = ap Some (let same : n ≡ n + 0 = omega arith in same)
summed_whole (frame ∷ frames) n few =
    let all = sum_by-cons (λ (f : Object). pixel_sum f.bytes) frame frames in
    let here : added n (pixel_sum frame.bytes) ≡ n + pixel_sum frame.bytes = omega (arith, few, all) in
    ap (λ m. summed (Some m) frames) here
    ∙ (summed_whole frames (n + pixel_sum frame.bytes) (omega (arith, few, all)) ∙ ap Some (omega (arith, all)))
