use Rattle.std.proofs.Common.{◌/◌, ◌≤◌, arith}
use Rattle.std.proofs.Math.Nat.{div-le_of_le-mul}
use Rattle.xs_blur.proofs.Dividing.{quotient_by_factor}
use Rattle.xs_blur.proofs.divisor.Divisor.quotient.Goals as goal

pub returns : goal.returns
returns c =
    let d = c.args.self in
    quotient_by_factor c.args.sum d.count d.factor d.some d.few c.requires d.exact

pub overflow_cast-result-2 : goal.overflow_cast-result-2
overflow_cast-result-2 c =
    let d = c.args.self in
    let e = quotient_by_factor c.args.sum d.count d.factor d.some d.few c.requires d.exact in
    let small : c.args.sum / d.count ≤ 255 = div-le_of_le-mul d.count (omega (arith, c.requires)) in
    omega (arith, e, small)
