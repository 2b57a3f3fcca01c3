use Rattle.std.proofs.Common.{arith, w32}
use Rattle.std.proofs.lemmas.Int.{ints, to_z-of_z}
use Rattle.xs_rect.proofs.Areas.{common_area, apart_up}
use Rattle.xs_rect.proofs.rect.Rect.clip.Goals as goal

pub returns-in_err-y-clause-none : goal.returns-in_err-y-clause-none
returns-in_err-y-clause-none c =
    let ay = to_z-of_z w32 c.self.inside.y (record { sfits = omega (arith, ints) }) in
    let by = to_z-of_z w32 c.o.inside.y (record { sfits = omega (arith, ints) }) in
    rw (c.from_residual-in_err-y.ensures, ← c.self.view_is, ← c.o.view_is) (apart_up _ _ (rw (ay, by) at c.in_err-y.ensures.none))

pub returns-clause-common : goal.returns-clause-common
returns-clause-common c =
    let ax = to_z-of_z w32 c.self.inside.x (record { sfits = omega (arith, ints) }) in
    let ay = to_z-of_z w32 c.self.inside.y (record { sfits = omega (arith, ints) }) in
    let bx = to_z-of_z w32 c.o.inside.x (record { sfits = omega (arith, ints) }) in
    let by = to_z-of_z w32 c.o.inside.y (record { sfits = omega (arith, ints) }) in
    let x = to_z-of_z w32 c.in_ok-x.x (record { sfits = omega (arith, ints, c.in_ok-x.ensures.range) }) in
    let y = to_z-of_z w32 c.in_ok-y.y (record { sfits = omega (arith, ints, c.in_ok-y.ensures.range) }) in
    rw (← c.self.view_is, ← c.o.view_is, x, y)
    (common_area _ _ _ _ _ _ (rw (ax, bx) at c.in_ok-x.ensures.common) (rw (ay, by) at c.in_ok-y.ensures.common))

pub returns-clause-within : goal.returns-clause-within
returns-clause-within c =
    let px = c.in_ok-x.ensures.within in let py = c.in_ok-y.ensures.within in
    rw (← c.self.view_is, ← c.o.view_is) (
      record { across = (omega (arith, ints), omega (arith, ints)); up = (omega (arith, ints), omega (arith, ints)) },
      record { across = (omega (arith, ints), omega (arith, ints)); up = (omega (arith, ints), omega (arith, ints)) },
    )
