-- The bytes of a frame file that is painted over
use Rattle.std.specs.Prelude.{◌≡◌, ℕ, ◌+◌, ◌*◌, List, length, take, drop}
use Rattle.xs_pixel.specs.Channels.{Channels}
use Rattle.xs_pixel.specs.PixelRows.{pixels}
use Rattle.xs_rect.specs.Area.{Area}
use Rattle.xs_rawfile.specs.declared.frame.TheConstants.{FRAME_HEADER}
use Rattle.xs_rawfile.specs.Frame.{frame_header_of}

-- the pixels of a frame file
abbrev pub pixels_behind : List ℕ → List Channels
pixels_behind bytes = pixels (drop FRAME_HEADER bytes)

-- the bytes are the header of an area's frame file, and four for each of its pixels
pub record IsCanvas (area : Area) (bytes : List ℕ) : Type 0 where
  pub whole : length bytes ≡ FRAME_HEADER + 4 * (area.w * area.h)
  pub header : take FRAME_HEADER bytes ≡ frame_header_of area.w area.h
