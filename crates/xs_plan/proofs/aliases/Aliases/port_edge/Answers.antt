-- The read is the one that its owner makes at the port that it is after the owner's first read.
use Rattle.std.proofs.Common.{◌<◌, length, sym, ◌∙◌, arith}
use Rattle.xs_plan.proofs.ReadLemmas.{edge_found}
use Rattle.xs_plan.proofs.aliases.Aliases.port_edge.Goals as goal

pub returns : goal.returns
returns c =
    let inside = c.self.inside in
    let there = rw (← c.self.view_is) at c.requires in
    let lt : c.args.e < length inside.owners.items = omega (arith, there, c.self.invariant.owners_many) in
    rw (← c.self.view_is)
    (edge_found c.self.invariant c.args.e c.index-alias.result.now c.index.result.now c.in-Some.source c.index-2.result.now
    lt c.index-alias.ensures c.index.ensures c.index-2.ensures (sym c.in-Some.is ∙ c.input.ensures))
