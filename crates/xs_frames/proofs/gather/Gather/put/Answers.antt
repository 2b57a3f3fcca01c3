use Rattle.std.proofs.Common.{ℕ, subst, sym, ap, ◌∙◌}
use Rattle.xs_plan.specs.Record.{root_at}
use Rattle.xs_core.specs.Calls.{HoldsTile}
use Rattle.xs_frames.specs.Frames.{GatherRecord, Gains, gather_of}
use Rattle.xs_frames.proofs.Painting.{gains, gathered_more}
use Rattle.xs_frames.proofs.gather.Gather.put.Goals as goal

pub invariant_of-self : goal.invariant_of-self
invariant_of-self g c =
    gathered_more c.self.inside.plan.value c.self.inside.row c.self.inside.raster c.paste.new.self c.args.t.now.raster c.self.invariant
    c.paste.ensures

pub returns : goal.returns
returns g c =
    let told = g.K.Film.pictures in
    let p = c.args.p.now in
    let q = c.self.inside.plan.value in
    let tile = c.args.tile in
    let same = c.requires.plan ∙ ap (λ (o : GatherRecord). o.plan) (sym c.self.view_is) in
    let mine = c.requires.mine ∙ ap (λ (o : GatherRecord). o.row) (sym c.self.view_is) in
    subst (λ (o : GatherRecord). Gains told o tile (gather_of q c.self.inside.row c.paste.new.self)) c.self.view_is
    (gains told p q c.self.inside.raster c.paste.new.self c.args.t.now c.self.inside.row tile same c.aliases.ensures.valid c.self.invariant
    c.requires.tile
    (subst (λ (row : ℕ). HoldsTile told p (root_at p row tile) c.args.t.now) mine c.requires.value)
    c.paste.ensures)
