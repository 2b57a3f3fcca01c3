use Rattle.xs_bench.proofs.Inputs.{lent, has_inputs}
use Rattle.xs_bench.proofs.Values.{holds_value}
use Rattle.xs_bench.proofs.plain_bench.PlainBenchBench.compute.Goals as goal

pub raster-requires-clause-inputs : goal.raster-requires-clause-inputs
raster-requires-clause-inputs g c =
    has_inputs g.K.Film.pictures c.args.p.now c.args.k (lent c.args.a) (lent c.args.b) c.aliases.ensures.valid c.requires.there c.requires.inputs

pub returns-clause-value : goal.returns-clause-value
returns-clause-value g c =
    holds_value g.K.Film.pictures c.args.d.now c.args.p.now c.args.k (lent c.args.a) (lent c.args.b) c.in_ok-raster.raster c.new.result
    c.aliases.ensures.valid c.requires.there c.hold_their_pictures.ensures c.requires.drawing c.requires.inputs c.in_ok-raster.ensures
    c.new.ensures.alias c.new.ensures.raster
