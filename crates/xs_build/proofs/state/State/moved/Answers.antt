use Rattle.std.proofs.Common.{◌≡◌, ◌+ℤ◌, to_z, of_z, w32, arith}
use Rattle.std.proofs.lemmas.Int.{ints}
use Rattle.xs_build.proofs.state.State.moved.Goals as goal

pub returns : goal.returns
returns c =
    let near = c.requires.near in
    let by = rw (← c.by.view_is) at c.requires.by in
    let x : to_z w32 (of_z w32 (to_z w32 (of_z w32 c.args.self.x) +ℤ to_z w32 (of_z w32 c.by.inside.x))) ≡ c.args.self.x +ℤ c.by.inside.x =
    omega (arith, ints, near.left, near.right, by.left, by.right) in
    let y : to_z w32 (of_z w32 (to_z w32 (of_z w32 c.args.self.y) +ℤ to_z w32 (of_z w32 c.by.inside.y))) ≡ c.args.self.y +ℤ c.by.inside.y =
    omega (arith, ints, near.bottom, near.top, by.bottom, by.top) in
    rw (← c.by.view_is)
    (λ i. record { spot = c.args.self.spot; x = x i; y = y i; dropped = c.args.self.dropped; growth = c.args.self.growth })
