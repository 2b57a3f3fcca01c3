use Rattle.std.specs.Prelude.{ℕ, pos, List, map, flat_map}
use Rattle.std.specs.List.{range_with_len}
use Rattle.xs_pixel.specs.Channels.{Channels, clear}
use Rattle.xs_pixel.specs.Operations.{apply_of}
use Rattle.xs_scene.specs.declared.node.Ref.{Ref}
use Rattle.xs_scene.specs.Records.{SceneRecord}
use Rattle.xs_pixel.specs.Picture.{Pictures}
use Rattle.xs_meaning.specs.Drawings.{number_of, drawing_pixel, colouring_at}
use Rattle.xs_meaning.specs.Palettes.{Dropped, none_dropped, pixel_of}
use Rattle.xs_meaning.specs.Places.{place_of}
use Rattle.xs_pixel.specs.Images.{Image, blurred}
use Rattle.xs_pixel.specs.Points.{Point, point, plus, minus}
use Rattle.xs_meaning.specs.Walk.{Interpretation, sheet_at, whole_row, whole_input}

-- the scene as it looks, one point at a time
unfoldable pub by_points : SceneRecord → Pictures → Interpretation Image
by_points s pictures =
    record {
      nothing = λ p. clear;
      drawing =
          λ level index row f p.
          let d = number_of s.levels level index in
          drawing_pixel (pictures d) (colouring_at s d row f) p;
      moved = λ q image p. image (minus p q);
      card = λ style p. pixel_of style;
      pair = λ op u d p. apply_of op (u p) (d p);
      blur = λ n image p. blurred n image p;
    }

-- the pixel of a row of a sheet at a point, under dropped styles
abbrev pub row_under : SceneRecord → Pictures → ℕ → ℕ → Dropped → Image
row_under s pictures k row f = whole_row (by_points s pictures) s.sheets k row f

abbrev pub row_of : SceneRecord → Pictures → ℕ → ℕ → Image
row_of s pictures k row = row_under s pictures k row none_dropped

-- the pixel of a column or node of a sheet at a row and point, under dropped styles
abbrev pub value_under : SceneRecord → Pictures → ℕ → Ref → ℕ → Dropped → Image
value_under s pictures k n row f = whole_input (by_points s pictures) s.sheets k n row f

-- the camera's offset: the place of its peg in sheet 0
abbrev pub camera_at : SceneRecord → ℕ → Point
camera_at s row = place_of (sheet_at s.sheets 0) s.camera.peg row

-- the pixel of a row's frame, whose lower left corner is the point (0, 0) plus the camera's offset
abbrev pub frame_pixel : SceneRecord → Pictures → ℕ → Image
frame_pixel s pictures row p = row_of s pictures 0 row (plus p (camera_at s row))

-- the pixels of a row's frame, from its lowest row up, each row from left to right
abbrev pub frame_of : SceneRecord → Pictures → ℕ → List Channels
frame_of s pictures row =
    flat_map
    (λ y. map (λ x. frame_pixel s pictures row (point (pos x) (pos y))) (range_with_len 0 s.camera.w))
    (range_with_len 0 s.camera.h)
