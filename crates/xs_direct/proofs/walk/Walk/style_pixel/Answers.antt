use Rattle.std.proofs.Common.{sym, ◌∙◌}
use Rattle.xs_direct.proofs.FilterLemmas.{style_at-dropped, style_at-kept}
use Rattle.xs_direct.specs.Values.{dropped_in}
use Rattle.xs_direct.proofs.walk.Walk.style_pixel.Goals as goal

pub returns-then-drops : goal.returns-then-drops
returns-then-drops g c =
    style_at-dropped _ c.args.self.now.spot.row (dropped_in c.args.self.now) c.args.style (sym c.drops.ensures ∙ c.if-drops.true)

pub returns-else-drops : goal.returns-else-drops
returns-else-drops g c =
    c.style_at.ensures ∙ style_at-kept _ c.args.self.now.spot.row (dropped_in c.args.self.now) c.args.style (sym c.drops.ensures ∙ c.if-drops.false)
