use Rattle.std.specs.Prelude.{ℕ, List, [], ◌∷◌, ◌++◌}
use Rattle.xs_raster.specs.Bitmap.{Bitmap, bytes_of}
use Rattle.xs_rawfile.specs.Level.{four_bytes}

-- what a frame file has before its pixels: the letters XFR1, the width and the height
abbrev pub frame_header_of : (w h : ℕ) → List ℕ
frame_header_of w h = (88 ∷ 70 ∷ 82 ∷ 49 ∷ []) ++ four_bytes w ++ four_bytes h

-- the bytes of a frame file: its header, and four bytes for each pixel
abbrev pub frame_file_of : Bitmap → List ℕ
frame_file_of r = frame_header_of r.area.w r.area.h ++ bytes_of r.pixels
