use Rattle.std.proofs.Common.{ltb, length, sym, ap, ◌∙◌}
use Rattle.std.proofs.lemmas.Simd.{tops_compared, length-zip2}
use lib.Lanes.{sel_l}
use mir.Syntax.{w8}
use Rattle.xs_lanes.proofs.Choices.{greater_chosen}
use Rattle.xs_lanes.proofs.lanes.greater.Goals as goal

pub returns-clause-value : goal.returns-clause-value
returns-clause-value c =
    ap (λ ms. sel_l ms c.args.y c.args.x) (tops_compared w8 ltb c.args.x c.args.y) ∙ greater_chosen c.args.x c.args.y

pub returns-clause-long : goal.returns-clause-long
returns-clause-long c =
    ap length (returns-clause-value c) ∙ (length-zip2 _ c.args.x c.args.y (c.fits-x.0 ∙ sym c.fits-y.0) ∙ c.fits-x.0)
