use Rattle.std.specs.Prelude.{ℕ, ◌/◌, ◌%◌, List, ◌++◌, codes, decimal}
use Rattle.xs_outside.specs.declared.object.Object.{Object}
use Rattle.xs_scene.specs.Records.{SceneRecord}
use Rattle.xs_pixel.specs.Picture.{Pictures}
use Rattle.xs_raster.specs.Bitmap.{bitmap}
use Rattle.xs_rawfile.specs.Frame.{frame_file_of}
use Rattle.xs_meaning.specs.RowValues.{frame_of}
use Rattle.xs_render.specs.Scenes.{area_of}

-- the name of the frame of a row, which is told in four digits
unfoldable pub frame_name_of : List ℕ → ℕ → List ℕ
frame_name_of base row =
    base ++ codes "." ++ decimal (row / 1000) ++ decimal (row / 100 % 10) ++ decimal (row / 10 % 10) ++ decimal (row % 10) ++ codes ".xfr"

-- the bytes of the frame of a row
unfoldable pub frame_file : SceneRecord → Pictures → ℕ → List ℕ
frame_file s pictures row = frame_file_of (bitmap (area_of s) (frame_of s pictures row))

-- the frame of a row
abbrev pub frame_at : SceneRecord → Pictures → List ℕ → ℕ → Object
frame_at s pictures base row = record { name = frame_name_of base row; bytes = frame_file s pictures row }
