use Rattle.std.proofs.Common.{ℕ, ◌+◌, ◌-◌, ◌%◌, ◌^◌, ltb, List, length, sym, ap, ◌∙◌}
use Rattle.std.specs.Simd.Lanes.{zip2}
use Rattle.std.proofs.lemmas.Simd.{tops_compared, length-zip2}
use lib.Lanes.{sel_l}
use mir.Syntax.{w8}
use Rattle.xs_lanes.proofs.Choices.{greater_chosen, differences_are}
use Rattle.xs_lanes.proofs.lanes.differences.Goals as goal

pub returns-clause-value : goal.returns-clause-value
returns-clause-value c =
    let less : List ℕ → List ℕ = λ xs. zip2 (λ a b. (a + (2 ^ 8 - b)) % 2 ^ 8) xs c.args.y in
    ap (λ ms. less (sel_l ms c.args.y c.args.x)) (tops_compared w8 ltb c.args.x c.args.y)
    ∙ (ap less (greater_chosen c.args.x c.args.y) ∙ differences_are c.args.x c.args.y c.fits-x.1 c.fits-y.1)

pub returns-clause-long : goal.returns-clause-long
returns-clause-long c =
    ap length (returns-clause-value c) ∙ (length-zip2 _ c.args.x c.args.y (c.fits-x.0 ∙ sym c.fits-y.0) ∙ c.fits-x.0)
