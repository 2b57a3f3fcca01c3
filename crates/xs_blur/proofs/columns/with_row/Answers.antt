use Rattle.std.proofs.Common.{◌+◌, ◌*◌, ◌<◌, length, arith}
use Rattle.xs_blur.proofs.TotalLemmas.{column-le, column-more, row-at, length-row}
use Rattle.xs_blur.proofs.columns.with_row.Goals as goal

pub add_row-requires-clause-room : goal.add_row-requires-clause-room
add_row-requires-clause-room c = λ i within.
    let bytes = c.args.bytes.now in
    let long = length c.args.sums.now in
    let here : i < long = omega (arith, length-row (long * (c.args.y + c.args.k)) long bytes (omega arith)) in
    omega (arith, c.requires.columns i here, column-le bytes long c.args.y c.args.k i (λ j. omega (arith, c.type_inv.bytes j)))

pub returns : goal.returns
returns c = λ i here.
    let bytes = c.args.bytes.now in
    let long = length c.args.sums.now in
    let from = long * (c.args.y + c.args.k) in
    let within = length-row from long bytes (omega arith) in
    omega (arith, c.add_row.ensures i (omega (arith, within)), c.requires.columns i here, row-at from long bytes i here, column-more bytes long c.args.y c.args.k i)
