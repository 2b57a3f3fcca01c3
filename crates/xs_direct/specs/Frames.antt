use Rattle.std.specs.Prelude.{ℕ, pos, List, map}
use Rattle.std.specs.List.{range_with_len}
use Rattle.xs_pixel.specs.Channels.{Channels}
use Rattle.xs_rect.specs.Area.{area}
use Rattle.xs_raster.specs.Bitmap.{bitmap}
use Rattle.xs_rawfile.specs.Frame.{frame_file_of}
use Rattle.xs_scene.specs.Records.{SceneRecord}
use Rattle.xs_pixel.specs.Picture.{Pictures}
use Rattle.xs_pixel.specs.Points.{point}
use Rattle.xs_meaning.specs.RowValues.{frame_of, frame_pixel}

-- the frame file of a row
unfoldable pub frame_file : SceneRecord → Pictures → ℕ → List ℕ
frame_file s pictures row =
    frame_file_of (bitmap (area (pos 0) (pos 0) s.camera.w s.camera.h) (frame_of s pictures row))

-- the first pixels of the line of a frame with this y
abbrev pub frame_line : SceneRecord → Pictures → (row y count : ℕ) → List Channels
frame_line s pictures row y count =
    map (λ x. frame_pixel s pictures row (point (pos x) (pos y))) (range_with_len 0 count)
