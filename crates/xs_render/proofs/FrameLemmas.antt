-- Lemmas on the frames that show a row of a scene's plan
use Rattle.std.proofs.Common.{◌≡◌, ◌<◌, ◌+◌, ◌*◌, ◌/◌, ◌%◌, ℕ, pos, Option, Some, List, length, map, get_or, slice_get, refl, sym, ap, ap₂, subst, ◌∙◌, inl, inr, arith}
use Rattle.std.specs.List.{range_with_len}
use Rattle.std.specs.Prelude.{unsigned_abs, slice_index_or, ◌-ℤ◌}
use Rattle.std.proofs.lemmas.Bool.{cases_lt}
use Rattle.std.proofs.lemmas.Int.{ints}
use Rattle.std.proofs.lemmas.List.{ext_get_or}
use Rattle.std.proofs.lemmas.List.FromFn.{get_or-map-range_with_len, length-map-range_with_len}
use Rattle.std.proofs.lemmas.Nat.{mod_below, div-add-mod', div_below}
use Rattle.std.proofs.lemmas.Option.{slice_get-get_or}
use Rattle.xs_pixel.specs.Channels.{Channels, clear}
use Rattle.xs_pixel.specs.Picture.{Pictures, place_in_box}
use Rattle.xs_pixel.specs.Points.{Point, point}
use Rattle.xs_rect.specs.Area.{Area}
use Rattle.xs_rect.specs.Tiles.{IsCut, frame, tile_of}
use Rattle.xs_raster.specs.Bitmap.{Bitmap, bitmap, pixel_of}
use Rattle.xs_rawfile.specs.Frame.{frame_file_of}
use Rattle.xs_scene.specs.Records.{SceneRecord}
use Rattle.xs_meaning.specs.Expressions.{Expr, Clear, root_of}
use Rattle.xs_meaning.specs.RowValues.{frame_of, frame_pixel}
use Rattle.xs_plan.specs.Record.{PlanRecord, root_at}
use Rattle.xs_plan.specs.Values.{value_in}
use Rattle.xs_frames.specs.Frames.{ShowsRow}
use Rattle.xs_render.specs.Scenes.{IsFrameOf}

-- the root at a place of a range of rows
pub root_there : (s : SceneRecord) (from rows row : ℕ) → row < rows
    → slice_get (map (root_of s) (range_with_len from rows)) row ≡ Some (root_of s (from + row))
root_there s from rows row there =
    slice_get-get_or (map (root_of s) (range_with_len from rows)) row Clear
    (subst (λ (n : ℕ). row < n) (sym (length-map-range_with_len (root_of s) from rows)) there)
    ∙ ap (λ (e : Expr). Some e) (get_or-map-range_with_len (root_of s) from rows row (from + row) Clear there refl)

-- a point of a frame stands at its place among the pixels
place_is : (w x y : ℕ) → place_in_box (pos 0) (pos 0) w (pos x) (pos y) ≡ y * w + x
unfolding place_in_box
place_is w x y =
    let up : unsigned_abs (pos y -ℤ pos 0) ≡ y = omega (arith, ints) in
    let along : unsigned_abs (pos x -ℤ pos 0) ≡ x = omega (arith, ints) in
    ap₂ (λ (u v : ℕ). u * w + v) up along

at_place : (w h x y : ℕ) (image : Bitmap) → image.area ≡ frame w h → pixel_of image (pos x) (pos y) ≡ slice_index_or image.pixels (y * w + x) clear
at_place w h x y image area =
    ap (λ (a : Area). slice_index_or image.pixels (place_in_box a.x a.y a.w (pos x) (pos y)) clear) area
    ∙ ap (λ (n : ℕ). slice_index_or image.pixels n clear) (place_is w x y)

-- what is told of rows in order, and of the roots of rows at the places of a plan
abbrev pub TellsOrder : SceneRecord → Pictures → ℕ → Type 0
TellsOrder s pictures row = (x y : ℕ) (outside : Channels) → x < s.camera.w → y < s.camera.h
    → slice_index_or (frame_of s pictures row) (y * s.camera.w + x) outside ≡ frame_pixel s pictures row (point (pos x) (pos y))

abbrev pub TellsRow : SceneRecord → Pictures → PlanRecord → ℕ → ℕ → Type 0
TellsRow s pictures p place row = (tile : ℕ) → tile < length p.tiles → (q : Point)
    → value_in pictures p (root_at p place tile) q ≡ frame_pixel s pictures row q

-- the pixel at a point of the frame
shown_at : (s : SceneRecord) (pictures : Pictures) (p : PlanRecord) (place row x y : ℕ) (told : Option Pictures) (image : Bitmap)
    → TellsOrder s pictures row → TellsRow s pictures p place row → IsFrameOf s p image → told ≡ Some pictures
    → ShowsRow told p place image → x < s.camera.w → y < s.camera.h
    → slice_index_or image.pixels (y * s.camera.w + x) clear ≡ slice_index_or (frame_of s pictures row) (y * s.camera.w + x) clear
shown_at s pictures p place row x y told image order roots is tells shows along up =
    let cut : IsCut s.camera.w s.camera.h p.tiles = subst (λ (a : Area). IsCut a.w a.h p.tiles) is.area is.painted.cut in
    let own = cut.own x y along up in
    sym (at_place s.camera.w s.camera.h x y image is.area)
    ∙ shows (tile_of s.camera.w x y) own.0 pictures tells (pos x) (pos y) own.1
    ∙ roots (tile_of s.camera.w x y) own.0 (point (pos x) (pos y))
    ∙ sym (order x y clear along up)

pub same_pixels : (s : SceneRecord) (pictures : Pictures) (p : PlanRecord) (place row : ℕ) (told : Option Pictures) (image : Bitmap)
    → length (frame_of s pictures row) ≡ s.camera.h * s.camera.w → TellsOrder s pictures row → TellsRow s pictures p place row
    → IsFrameOf s p image → told ≡ Some pictures → ShowsRow told p place image
    → image.pixels ≡ frame_of s pictures row
same_pixels s pictures p place row told image count order roots is tells shows =
    ext_get_or clear image.pixels (frame_of s pictures row) (omega (arith, whole, count)) at
  where
    whole : length image.pixels ≡ s.camera.w * s.camera.h
    whole = is.whole ∙ ap (λ (a : Area). a.w * a.h) is.area

    at : (i : ℕ) → i < length image.pixels → get_or image.pixels i clear ≡ get_or (frame_of s pictures row) i clear
    at i within =
        let all : i < s.camera.h * s.camera.w = omega (arith, within, whole) in
        elim (cases_lt 0 s.camera.w) [
          | inl some ↦
              let up : i / s.camera.w < s.camera.h = div_below i s.camera.w s.camera.h some all in
              let along : i % s.camera.w < s.camera.w = mod_below i s.camera.w some in
              subst (λ (j : ℕ). get_or image.pixels j clear ≡ get_or (frame_of s pictures row) j clear) (div-add-mod' i s.camera.w)
              (shown_at s pictures p place row (i % s.camera.w) (i / s.camera.w) told image order roots is tells shows along up)
          | inr none ↦
              let flat : s.camera.w ≡ 0 = omega (arith, none) in
              let nothing : s.camera.h * s.camera.w ≡ s.camera.h * 0 = ap (λ (n : ℕ). s.camera.h * n) flat in
              absurd (omega (arith, all, nothing))
        ]

pub same_file : (s : SceneRecord) (pictures : Pictures) (p : PlanRecord) (place row : ℕ) (told : Option Pictures) (image : Bitmap)
    → length (frame_of s pictures row) ≡ s.camera.h * s.camera.w → TellsOrder s pictures row → TellsRow s pictures p place row
    → IsFrameOf s p image → told ≡ Some pictures → ShowsRow told p place image
    → frame_file_of image ≡ frame_file_of (bitmap (frame s.camera.w s.camera.h) (frame_of s pictures row))
same_file s pictures p place row told image count order roots is tells shows =
    ap₂ (λ (a : Area) (ps : List Channels). frame_file_of (bitmap a ps)) is.area
    (same_pixels s pictures p place row told image count order roots is tells shows)
