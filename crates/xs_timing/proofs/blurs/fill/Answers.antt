use Rattle.std.proofs.Common.{◌≡◌, length, refl, arith, rules}
use Rattle.std.proofs.lemmas.Int.{ints}
use Rattle.xs_timing.proofs.blurs.fill.Goals as goal

pub put_row-requires-clause-across : goal.put_row-requires-clause-across
put_row-requires-clause-across c =
    let four : length c.to_bytes.result ≡ 4 = search rules in
    let held = rw c.rect.ensures.area at (c.if-contains.ensures.0 refl) in
    rw four (omega (arith, ints, held.across.least), omega (arith, ints, held.across.below))
