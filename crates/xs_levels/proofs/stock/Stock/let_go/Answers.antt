use Rattle.std.proofs.Common.{◌≡◌, ◌<◌, ◌≤◌, arith, None}
use Rattle.xs_levels.proofs.Counting.{slot_within, bytes_set}
use Rattle.xs_levels.proofs.stock.Stock.let_go.Goals as goal

pub overflow_sub-self : goal.overflow_sub-self
overflow_sub-self g c =
    let sums = rw (← c.self.view_is) at c.requires.bytes in
    let within = rw (← c.self.view_is) at c.requires.number in
    let one = slot_within c.self.inside.drawings c.args.d within in
    rw c.bytes_at-bytes.ensures (omega (arith, sums, one))

pub returns-clause-bytes : goal.returns-clause-bytes
returns-clause-bytes g c =
    let sums = rw (← c.self.view_is) at c.requires.bytes in
    let within = rw (← c.self.view_is) at c.requires.number in
    let change = bytes_set c.self.inside.drawings c.args.d None within in
    rw (c.remove.ensures, c.bytes_at-bytes.ensures) (omega (arith, sums, change))
