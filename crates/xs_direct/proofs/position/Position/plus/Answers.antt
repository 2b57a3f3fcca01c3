use Rattle.std.proofs.Common.{◌≡◌, ◌+ℤ◌, to_z, of_z, w32, arith}
use Rattle.std.proofs.lemmas.Int.{ints}
use mathlib.Core.Path.{ap₂}
use Rattle.xs_pixel.specs.Points.{point}
use Rattle.xs_direct.proofs.position.Position.plus.Goals as goal

pub returns : goal.returns
returns c =
    let room = rw (← c.self.view_is) at c.requires.room in
    let near = rw (← c.by.view_is) at c.requires.near in
    rw (← c.self.view_is, ← c.by.view_is)
    (ap₂ point
    (let x : to_z w32 (of_z w32 (to_z w32 (of_z w32 c.self.inside.x) +ℤ to_z w32 (of_z w32 c.by.inside.x))) ≡ c.self.inside.x +ℤ c.by.inside.x =
    omega (arith, ints, room.left, room.right, near.left, near.right) in x)
    (let y : to_z w32 (of_z w32 (to_z w32 (of_z w32 c.self.inside.y) +ℤ to_z w32 (of_z w32 c.by.inside.y))) ≡ c.self.inside.y +ℤ c.by.inside.y =
    omega (arith, ints, room.bottom, room.top, near.bottom, near.top) in y))
