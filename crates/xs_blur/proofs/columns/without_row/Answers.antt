use Rattle.std.proofs.Common.{◌*◌, ◌<◌, length, arith}
use Rattle.xs_blur.proofs.TotalLemmas.{column-first, row-at, length-row}
use Rattle.xs_blur.proofs.columns.without_row.Goals as goal

pub take_row-requires-clause-had : goal.take_row-requires-clause-had
take_row-requires-clause-had c = λ i within.
    let bytes = c.args.bytes.now in
    let long = length c.args.sums.now in
    let from = long * c.args.y in
    let here : i < long = omega (arith, length-row from long bytes (omega arith)) in
    omega (arith, c.requires.columns i here, row-at from long bytes i here, column-first bytes long c.args.y c.args.k i)

pub returns : goal.returns
returns c = λ i here.
    let bytes = c.args.bytes.now in
    let long = length c.args.sums.now in
    let from = long * c.args.y in
    let within = length-row from long bytes (omega arith) in
    omega (arith, c.take_row.ensures i (omega (arith, within)), c.requires.columns i here, row-at from long bytes i here, column-first bytes long c.args.y c.args.k i)
