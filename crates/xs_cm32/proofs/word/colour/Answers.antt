use Rattle.xs_cm32.proofs.Mixes.{IsPixel-colour_of}
use Rattle.xs_cm32.proofs.word.colour.Goals as goal

pub from_bytes-requires : goal.from_bytes-requires
from_bytes-requires c =
    let valid = IsPixel-colour_of c.args.w c.args.ink c.args.paint c.m.ensures.valid c.m-2.ensures.valid in
    let of_channels =
    rw (← c.r.ensures, ← c.r-2.ensures, ← c.g.ensures, ← c.g-2.ensures, ← c.b.ensures, ← c.b-2.ensures, ← c.m.ensures.value, ← c.m-2.ensures.value) at valid
    in
    (rw (c.mix.ensures, c.mix-2.ensures, c.mix-3.ensures, c.mix-4.ensures, c.tone-tone.ensures) of_channels, tt)
