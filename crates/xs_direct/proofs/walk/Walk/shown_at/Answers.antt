use Rattle.std.proofs.Common.{FitsSigned, w32, ◌∙◌, rules}
use Rattle.std.proofs.lemmas.Int.{to_z-of_z}
use Rattle.xs_direct.specs.Values.{dropped_in}
use Rattle.xs_direct.proofs.DrawingLemmas.{shown-colour, shown-words}
use Rattle.xs_direct.proofs.walk.Walk.shown_at.Goals as goal

pub returns-in-Colour : goal.returns-in-Colour
returns-in-Colour g c =
    let fx : FitsSigned w32 c.p.inside.x = search rules in
    let fy : FitsSigned w32 c.p.inside.y = search rules in
    let x = to_z-of_z w32 c.p.inside.x fx in
    let y = to_z-of_z w32 c.p.inside.y fy in
    rw (← c.p.view_is) (rw (x, y) at c.pixel.ensures)
    ∙ shown-colour c.args.self.now.scene.now c.args.d c.args.self.now.spot.row
    (dropped_in c.args.self.now) c.args.drawing.now c.args.p c.in-Colour.ensures.value

pub returns-in-Cm32 : goal.returns-in-Cm32
returns-in-Cm32 g c =
    c.coloured_at.ensures
    ∙ shown-words c.args.self.now.scene.now c.args.d c.args.self.now.spot.row c.in-Cm32.palette
    (dropped_in c.args.self.now) c.args.drawing.now c.args.p c.in-Cm32.ensures.value
