use Rattle.std.proofs.Common.{◌≡◌, ◌-◌, ◌+ℤ◌, None, Some, sym, ap, ap₂, ◌∙◌, arith, w32, to_z, of_z}
use Rattle.std.proofs.lemmas.Int.{ints}
use Rattle.xs_meaning.specs.Places.{place_up}
use Rattle.xs_pixel.specs.Points.{point, plus}
use Rattle.xs_sheet.proofs.Offsets.{place_up-zero, place_up-step}
use Rattle.xs_sheet.proofs.pegs.+place_up.Goals as goal

pub returns-then-most-eq0-clause-value : goal.returns-then-most-eq0-clause-value
returns-then-most-eq0-clause-value g t c =
    place_up-zero (g.P.Pegs.sheet c.args.pegs.now) c.args.peg c.args.row c.args.most c.if-most-eq0.true

pub returns-in_default-clause-value : goal.returns-in_default-clause-value
returns-in_default-clause-value g t c =
    let k = g.P.Pegs.sheet c.args.pegs.now in
    place_up-step k c.args.row c.args.most None c.if-most-eq0.false ∙ ap (λ o. place_up c.args.most k o c.args.row) (sym c.in_default.is)

pub returns-clause-value : goal.returns-clause-value
returns-clause-value g t c =
    let k = g.P.Pegs.sheet c.args.pegs.now in
    let own = c.own_offset-x.result in
    let parents = c.place_up-across.result in
    let near = c.place_up-across.ensures.near in
    let x : to_z w32 (of_z w32 (to_z w32 (of_z w32 own.0) +ℤ to_z w32 (of_z w32 parents.0))) ≡ own.0 +ℤ parents.0 =
    omega (arith, ints, c.own_offset-x.ensures.across, near.left, near.right) in
    let y : to_z w32 (of_z w32 (to_z w32 (of_z w32 own.1) +ℤ to_z w32 (of_z w32 parents.1))) ≡ own.1 +ℤ parents.1 =
    omega (arith, ints, c.own_offset-x.ensures.up, near.bottom, near.top) in
    ap₂ point x y
    ∙ ap₂ plus c.own_offset-x.ensures.value
    (c.place_up-across.ensures.value ∙ ap (λ o. place_up (c.args.most - 1) k o c.args.row) c.parent-parent.ensures)
    ∙ place_up-step k c.args.row c.args.most (Some c.in-Some.number) c.if-most-eq0.false
    ∙ ap (λ o. place_up c.args.most k o c.args.row) (sym c.in-Some.is)
