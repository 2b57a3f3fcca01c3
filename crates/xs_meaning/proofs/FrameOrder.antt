-- Where the pixels of a frame stand
use Rattle.std.proofs.Common.{ℕ, ◌≡◌, ◌+◌, ◌*◌, ◌<◌, pos, sym, ap, ◌∙◌, subst, List, length, map, flat_map, take, get_or, arith}
use Rattle.std.specs.List.{range_with_len}
use Rattle.std.proofs.lemmas.List.{length-take-le}
use Rattle.std.proofs.lemmas.List.Concat.{get_or-flat_map}
use Rattle.std.proofs.lemmas.List.FromFn.{get_or-range_with_len, get_or-map-range_with_len, length-range_with_len, length-map-range_with_len}
use Rattle.xs_pixel.specs.Channels.{Channels}
use Rattle.xs_scene.specs.Records.{SceneRecord}
use Rattle.xs_pixel.specs.Picture.{Pictures}
use Rattle.xs_pixel.specs.Points.{point}
use Rattle.xs_meaning.specs.RowValues.{frame_of, frame_pixel}
use Rattle.xs_meaning.proofs.Lists.{length-flat_map_even}

module _ {A : Type 0} (line : ℕ → List A) (w : ℕ) (long : (y : ℕ) → length (line y) ≡ w) where
  in_line : (ys : List ℕ) (i j e : ℕ) (outside : A) → i < length ys → j < w
      → get_or (flat_map line ys) (i * w + j) outside ≡ get_or (line (get_or ys i e)) j outside
  in_line ys i j e outside within along =
      let before : length (flat_map line (take i ys)) ≡ i * w =
      length-flat_map_even line w long (take i ys) ∙ ap (λ n. n * w) (length-take-le i ys (omega arith))
      in
      ap (λ n. get_or (flat_map line ys) (n + j) outside) (sym before)
      ∙ get_or-flat_map line ys i j e outside within (subst (λ n. j < n) (sym (long (get_or ys i e))) along)

-- the pixels of a row of a frame
abbrev line_of : SceneRecord → Pictures → ℕ → ℕ → List Channels
line_of s pictures row y = map (λ x. frame_pixel s pictures row (point (pos x) (pos y))) (range_with_len 0 s.camera.w)

line_long : (s : SceneRecord) (pictures : Pictures) (row y : ℕ) → length (line_of s pictures row y) ≡ s.camera.w
line_long s pictures row y = length-map-range_with_len (λ x. frame_pixel s pictures row (point (pos x) (pos y))) 0 s.camera.w

pub length-frame_of : (s : SceneRecord) (pictures : Pictures) (row : ℕ) → length (frame_of s pictures row) ≡ s.camera.h * s.camera.w
length-frame_of s pictures row =
    length-flat_map_even (line_of s pictures row) s.camera.w (line_long s pictures row) (range_with_len 0 s.camera.h)
    ∙ ap (λ n. n * s.camera.w) (length-range_with_len 0 s.camera.h)

pub frame_of-at : (s : SceneRecord) (pictures : Pictures) (row x y : ℕ) (outside : Channels) → x < s.camera.w → y < s.camera.h
    → get_or (frame_of s pictures row) (y * s.camera.w + x) outside ≡ frame_pixel s pictures row (point (pos x) (pos y))
frame_of-at s pictures row x y outside along up =
    let within : y < length (range_with_len 0 s.camera.h) = subst (λ n. y < n) (sym (length-range_with_len 0 s.camera.h)) up in
    let here : get_or (range_with_len 0 s.camera.h) y 0 ≡ y = get_or-range_with_len 0 s.camera.h y 0 up ∙ (omega arith) in
    in_line (line_of s pictures row) s.camera.w (line_long s pictures row) (range_with_len 0 s.camera.h) y x 0 outside within along
    ∙ (ap (λ n. get_or (line_of s pictures row n) x outside) here
    ∙ get_or-map-range_with_len (λ x. frame_pixel s pictures row (point (pos x) (pos y))) 0 s.camera.w x x outside along (omega arith))
