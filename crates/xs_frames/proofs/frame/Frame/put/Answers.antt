use Rattle.std.proofs.Common.{◌<◌, ℕ, Some, length, set, subst, sym, ap, ◌∙◌}
use Rattle.xs_plan.specs.Record.{PlanRecord, root_at, rows_in}
use Rattle.xs_plan.specs.Valid.{IsPlan}
use Rattle.xs_core.specs.Calls.{HoldsTile}
use Rattle.xs_frames.specs.Frames.{FrameRecord, IsFrame, frame_of}
use Rattle.xs_frames.proofs.Painting.{painted}
use Rattle.xs_frames.proofs.frame.Frame.put.Goals as goal

pub invariant_of-self : goal.invariant_of-self
invariant_of-self g c =
    let told = g.K.Film.pictures in
    let row = c.args.row in
    let tile = c.args.tile in
    let t = c.args.t.now in
    let q = c.self.inside.plan.value in
    let there = c.self.inside.there.items in
    let same = c.requires.plan ∙ ap (λ (f : FrameRecord). f.plan) (sym c.self.view_is) in
    subst (λ (k : ℕ). IsFrame told (frame_of q c.paste.new.self (set there tile (Some k)))) (sym c.alias-2.ensures)
    (painted told q c.self.inside.canvas c.paste.new.self there t row tile
    (subst IsPlan same c.aliases.ensures.valid)
    c.self.invariant
    (subst (λ (p : PlanRecord). row < rows_in p) same c.requires.row)
    (subst (λ (p : PlanRecord). tile < length p.tiles) same c.requires.tile)
    (subst (λ (p : PlanRecord). HoldsTile told p (root_at p row tile) t) same c.requires.value)
    c.paste.ensures)
