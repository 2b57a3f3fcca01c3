use Rattle.std.specs.Prelude.{ℕ, Bool, ◌&&◌, not, nat_le, List, Option, None, option_map}
use Rattle.std.specs.List.{position_from}
use Rattle.xs_pixel.specs.Channels.{Channels}
use Rattle.xs_pixel.specs.PixelRows.{pixels}
use Rattle.xs_rawfile.specs.declared.drawing.RawKind.{RawKind}
use Rattle.xs_rawfile.specs.declared.drawing.RawKind.TheVariants.{Colour, Cm32}
use Rattle.xs_rawfile.specs.declared.fault.LevelCode.{LevelCode}
use Rattle.xs_rawfile.specs.declared.fault.LevelCode.TheVariants.{NotPremultiplied}

-- a colour of the pixel exceeds its matte
abbrev pub exceeds : Channels → Bool
exceeds p = not (nat_le p.r p.m && (nat_le p.g p.m && nat_le p.b p.m))

-- the number of the first pixel of which a colour exceeds the matte
abbrev pub first_unmultiplied_of : List ℕ → Option ℕ
first_unmultiplied_of bytes = position_from exceeds 0 (pixels bytes)

-- the fault of such a pixel, which a file of CM32 words doesn't have
abbrev pub unmultiplied_fault : RawKind → List ℕ → Option LevelCode
unmultiplied_fault Colour bytes = option_map (λ pixel. NotPremultiplied pixel) (first_unmultiplied_of bytes)
unmultiplied_fault Cm32 bytes = None
