use Rattle.std.proofs.Common.{◌≡◌, ◌*◌, [], ◌∷◌, get_or, refl}
use Rattle.std.specs.Simd.Lanes.{chunk}
use Rattle.xs_pixel.specs.Channels.{IsPixel, clear}
use Rattle.xs_pixel.specs.PixelRows.{pixels}
use Rattle.xs_pixel.proofs.PixelRowLemmas.{pixel_of_chunk, chunk_of_pixels}
use Rattle.xs_pixel.proofs.pixel.Pixel.from_row.Goals as goal

pub from_bytes-requires : goal.from_bytes-requires
from_bytes-requires c = chunk_of_pixels IsPixel (4 * c.args.place) c.args.place 4 1 c.args.row.now refl refl c.requires.premultiplied

pub returns : goal.returns
returns c =
    let bytes = c.args.row.now in
    let place = c.args.place in
    let one : pixels (chunk (4 * place) 4 bytes) ≡ c.from_bytes.result ∷ [] = c.from_bytes.ensures in
    let at : pixels (chunk (4 * place) 4 bytes) ≡ get_or (pixels bytes) place clear ∷ [] = pixel_of_chunk (4 * place) place bytes clear refl c.requires.room in
    cc
