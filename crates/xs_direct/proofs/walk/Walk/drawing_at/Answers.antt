use Rattle.std.proofs.Common.{refl, ◌∙◌}
use Rattle.xs_meaning.specs.Drawings.{colouring_at}
use Rattle.xs_direct.specs.Values.{dropped_in}
use Rattle.xs_direct.proofs.DrawingLemmas.{held-shown, lacking-clear}
use Rattle.xs_direct.proofs.walk.Walk.drawing_at.Goals as goal

pub returns-in-Some : goal.returns-in-Some
returns-in-Some g c =
    c.shown_at.ensures
    ∙ held-shown c.args.self.now.drawings.now c.args.d c.in-Some.drawing.now
    (colouring_at c.args.self.now.scene.now c.args.d c.args.self.now.spot.row (dropped_in c.args.self.now)) c.args.p c.in-Some.ensures.value

pub returns-in-None : goal.returns-in-None
returns-in-None g c =
    lacking-clear c.args.self.now.drawings.now c.args.d
    (colouring_at c.args.self.now.scene.now c.args.d c.args.self.now.spot.row (dropped_in c.args.self.now)) c.args.p (c.in-None.ensures.none.0 refl)
