use Rattle.std.proofs.Common.{◌*◌, refl}
use Rattle.xs_pixel.proofs.PixelRowLemmas.{length-pixels, pixels-append, pixels-drop, pixels-chunk, pixels-put_chunk}
use Rattle.xs_pixel.proofs.laws.rows_of_bytes_are_rows_of_pixels.Goals as goal

pub returns-clause-count : goal.returns-clause-count
returns-clause-count c = length-pixels

pub returns-clause-joined : goal.returns-clause-joined
returns-clause-joined c = pixels-append

pub returns-clause-rest : goal.returns-clause-rest
returns-clause-rest c = λ k row. pixels-drop (4 * k) k row refl

pub returns-clause-part : goal.returns-clause-part
returns-clause-part c = λ k n row. pixels-chunk (4 * k) k (4 * n) n row refl refl

pub returns-clause-written : goal.returns-clause-written
returns-clause-written c = λ k n row more whole. pixels-put_chunk (4 * k) k n row more refl whole
