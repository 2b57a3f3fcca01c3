use Rattle.std.proofs.Common.{w32, arith, rules}
use Rattle.std.proofs.lemmas.Int.{ints, to_z-of_z}
use Rattle.xs_rect.proofs.rect.Rect.contains.Goals as goal

pub returns-then-lies : goal.returns-then-lies
returns-then-lies c =
    let ax = to_z-of_z w32 c.self.inside.x (record { sfits = omega (arith, ints) }) in
    let ay = to_z-of_z w32 c.self.inside.y (record { sfits = omega (arith, ints) }) in
    let x = to_z-of_z w32 c.args.x c.ranges.x in
    let y = to_z-of_z w32 c.args.y c.ranges.y in
    let across = rw (ax, x) at c.if-lies.ensures in
    let up = rw (ay, y) at c.lies-then-lies.ensures in
    rw (← c.self.view_is) (λ t. record { across = across.0 (search rules); up = up.0 t }, λ h. up.1 h.up)
