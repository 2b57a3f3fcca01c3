-- The bytes of a frame file: its header, and behind it the pixels.
use Rattle.std.proofs.Common.{◌≡◌, ℕ, zero, suc, ◌+◌, ◌-◌, ◌*◌, ◌≤◌, List, [], ◌∷◌, ◌++◌, length, take, drop, replicate, refl, sym, ap, ap₂, subst, ◌∙◌, arith}
use Rattle.std.proofs.Math.Seq.{drop-append_seam, take-append_seam}
use Rattle.std.proofs.lemmas.List.{take-append-drop, length-drop, length-append, length-replicate, length-take-le, append-nil, take_all}
use Rattle.std.proofs.Math.ListN.{drop_of_length-le}
use borrow.Rule.Slice.PartMut.{put_mid}
use Rattle.xs_pixel.specs.Channels.{clear}
use Rattle.xs_pixel.specs.PixelRows.{pixels}
use Rattle.xs_rect.specs.Area.{Area}
use Rattle.xs_raster.specs.Bitmap.{bitmap, bytes_of, clear_pixels}
use Rattle.xs_rawfile.specs.declared.frame.TheConstants.{FRAME_HEADER}
use Rattle.xs_rawfile.specs.Frame.{frame_file_of, frame_header_of}
use Rattle.xs_frames.specs.Canvases.{IsCanvas, pixels_behind}

bytes_of-pixels : (n : ℕ) (xs : List ℕ) → length xs ≡ 4 * n → bytes_of (pixels xs) ≡ xs
bytes_of-pixels n [] whole = refl
bytes_of-pixels n (r ∷ []) whole = absurd (omega arith)
bytes_of-pixels n (r ∷ g ∷ []) whole = absurd (omega arith)
bytes_of-pixels n (r ∷ g ∷ b ∷ []) whole = absurd (omega arith)
bytes_of-pixels n (r ∷ g ∷ b ∷ m ∷ xs) whole = ap (λ rest. r ∷ g ∷ b ∷ m ∷ rest) (bytes_of-pixels (n - 1) xs (omega arith))

-- bytes that are all 0 are clear pixels
pixels-zeros : (m n : ℕ) → m ≡ 4 * n → pixels (replicate m 0) ≡ replicate n clear
pixels-zeros zero zero e = refl
pixels-zeros zero (suc n) e = absurd (omega arith)
pixels-zeros (suc zero) n e = absurd (omega arith)
pixels-zeros (suc (suc zero)) n e = absurd (omega arith)
pixels-zeros (suc (suc (suc zero))) n e = absurd (omega arith)
pixels-zeros (suc (suc (suc (suc m)))) zero e = absurd (omega arith)
pixels-zeros (suc (suc (suc (suc m)))) (suc n) e = ap (λ ps. clear ∷ ps) (pixels-zeros m n (omega arith))

-- a canvas is a frame file
pub is_file : (a : Area) (bytes : List ℕ) → IsCanvas a bytes → bytes ≡ frame_file_of (bitmap a (pixels_behind bytes))
is_file a bytes is =
    let long : length (drop FRAME_HEADER bytes) ≡ 4 * (a.w * a.h) = omega (arith, length-drop FRAME_HEADER bytes, is.whole) in
    sym (take-append-drop FRAME_HEADER bytes)
    ∙ ap (λ (header : List ℕ). header ++ drop FRAME_HEADER bytes) is.header
    ∙ ap (λ (rest : List ℕ). frame_header_of a.w a.h ++ rest) (sym (bytes_of-pixels (a.w * a.h) (drop FRAME_HEADER bytes) long))

-- it has a pixel for each point
length-pixels : (n : ℕ) (xs : List ℕ) → length xs ≡ 4 * n → length (pixels xs) ≡ n
length-pixels n [] whole = omega (arith, whole)
length-pixels n (r ∷ []) whole = absurd (omega arith)
length-pixels n (r ∷ g ∷ []) whole = absurd (omega arith)
length-pixels n (r ∷ g ∷ b ∷ []) whole = absurd (omega arith)
length-pixels n (r ∷ g ∷ b ∷ m ∷ xs) whole = let rest = length-pixels (n - 1) xs (omega arith) in omega (arith, whole, rest)

pub has_all_pixels : (a : Area) (bytes : List ℕ) → IsCanvas a bytes → length (pixels_behind bytes) ≡ a.w * a.h
has_all_pixels a bytes is =
    length-pixels (a.w * a.h) (drop FRAME_HEADER bytes) (omega (arith, length-drop FRAME_HEADER bytes, is.whole))

-- ---- the clear canvas

header_long : (w h : ℕ) → length (frame_header_of w h) ≡ FRAME_HEADER
header_long w h = refl

pub clear_canvas : (a : Area) (bytes : List ℕ) → bytes ≡ frame_header_of a.w a.h ++ replicate (4 * (a.w * a.h)) 0 → IsCanvas a bytes
clear_canvas a bytes is = record {
  whole =
      let long = ap length is ∙ length-append (frame_header_of a.w a.h) (replicate (4 * (a.w * a.h)) 0) in
      let zeros = length-replicate {A = ℕ} (4 * (a.w * a.h)) 0 in
      let header = header_long a.w a.h in
      omega (arith, long, zeros, header);
  header = ap (take FRAME_HEADER) is ∙ take-append_seam (frame_header_of a.w a.h) (replicate (4 * (a.w * a.h)) 0);
}

pub clear_behind :
    (a : Area) (bytes : List ℕ) → bytes ≡ frame_header_of a.w a.h ++ replicate (4 * (a.w * a.h)) 0
    → bitmap a (pixels_behind bytes) ≡ bitmap a (clear_pixels a)
clear_behind a bytes is =
    ap (λ (l : List ℕ). bitmap a (pixels_behind l)) is
    ∙ ap (λ (l : List ℕ). bitmap a (pixels l)) (drop-append_seam (frame_header_of a.w a.h) (replicate (4 * (a.w * a.h)) 0))
    ∙ ap (bitmap a) (pixels-zeros (4 * (a.w * a.h)) (a.w * a.h) refl)

-- what is there after the header and the zeros were put
pub cleared :
    (a : Area) (w h whole had : ℕ) (empty before bytes : List ℕ) → w ≡ a.w → h ≡ a.h → whole ≡ FRAME_HEADER + 4 * (w * h)
    → empty ≡ [] → before ≡ empty ++ frame_header_of w h → had ≡ length before
    → bytes ≡ take whole before ++ replicate (whole - had) 0 → bytes ≡ frame_header_of a.w a.h ++ replicate (4 * (a.w * a.h)) 0
cleared a w h whole had empty before bytes across up whole_is none put had_is grown =
    let header : before ≡ frame_header_of w h = put ∙ ap (λ (l : List ℕ). l ++ frame_header_of w h) none in
    let long : length before ≡ FRAME_HEADER = ap length header ∙ header_long w h in
    let kept : take whole before ≡ before = take_all whole before (omega (arith, long, whole_is)) in
    let more : whole - had ≡ 4 * (w * h) = omega (arith, long, whole_is, had_is) in
    let sizes : 4 * (w * h) ≡ 4 * (a.w * a.h) = ap₂ (λ (x y : ℕ). 4 * (x * y)) across up in
    grown ∙ ap (λ (l : List ℕ). l ++ replicate (whole - had) 0) (kept ∙ header ∙ ap₂ frame_header_of across up)
    ∙ ap (λ (n : ℕ). frame_header_of a.w a.h ++ replicate n 0) (more ∙ sizes)

-- ---- the part behind the header

pub behind_all : (xs : List ℕ) → take (length xs - FRAME_HEADER) (drop FRAME_HEADER xs) ≡ drop FRAME_HEADER xs
behind_all xs = take_all (length xs - FRAME_HEADER) (drop FRAME_HEADER xs) (omega (arith, length-drop FRAME_HEADER xs))

pub behind_new :
    (xs ys : List ℕ) → FRAME_HEADER ≤ length xs → drop FRAME_HEADER (put_mid FRAME_HEADER (length xs - FRAME_HEADER) xs ys) ≡ ys
behind_new xs ys some =
    let none : drop (length xs - FRAME_HEADER) (drop FRAME_HEADER xs) ≡ [] =
    drop_of_length-le (drop FRAME_HEADER xs) (omega (arith, length-drop FRAME_HEADER xs)) in
    let header : length (take FRAME_HEADER xs) ≡ FRAME_HEADER = length-take-le FRAME_HEADER xs some in
    ap (λ (rest : List ℕ). drop FRAME_HEADER (take FRAME_HEADER xs ++ (ys ++ rest))) none
    ∙ ap (λ (rest : List ℕ). drop FRAME_HEADER (take FRAME_HEADER xs ++ rest)) (append-nil ys)
    ∙ subst (λ (n : ℕ). drop n (take FRAME_HEADER xs ++ ys) ≡ ys) header (drop-append_seam (take FRAME_HEADER xs) ys)
