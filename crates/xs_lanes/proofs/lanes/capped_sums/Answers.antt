use Rattle.std.proofs.Common.{ℕ, ◌+◌, ◌-◌, ◌%◌, ◌^◌, ltb, List, length, map, sym, ap, ◌∙◌}
use Rattle.std.specs.Simd.Lanes.{zip2}
use Rattle.std.proofs.lemmas.Simd.{tops_compared, length-zip2}
use lib.Lanes.{sel_l}
use mir.Syntax.{w8}
use Rattle.xs_lanes.proofs.Choices.{lesser_chosen, capped_sums_are}
use Rattle.xs_lanes.proofs.lanes.capped_sums.Goals as goal

pub returns-clause-value : goal.returns-clause-value
returns-clause-value c =
    let room : List ℕ = map (λ a. 2 ^ 8 - 1 - a) c.args.x in
    ap (λ ms. zip2 (λ a b. (a + b) % 2 ^ 8) c.args.x (sel_l ms c.args.y room)) (tops_compared w8 ltb c.args.y room)
    ∙ (ap (zip2 (λ a b. (a + b) % 2 ^ 8) c.args.x) (lesser_chosen c.args.y room) ∙ capped_sums_are c.args.x c.args.y c.fits-x.1)

pub returns-clause-long : goal.returns-clause-long
returns-clause-long c =
    ap length (returns-clause-value c) ∙ (length-zip2 _ c.args.x c.args.y (c.fits-x.0 ∙ sym c.fits-y.0) ∙ c.fits-x.0)
