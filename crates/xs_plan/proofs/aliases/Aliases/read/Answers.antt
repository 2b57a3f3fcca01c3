-- The reads at ports come first.
use Rattle.std.proofs.Common.{◌≡◌, ◌<◌, ◌+◌, ◌-◌, ◌++◌, length, slice_get, ap, ◌∙◌, arith}
use Rattle.xs_plan.specs.Kept.{Rooted}
use Rattle.xs_plan.specs.Reads.{port_sources, port_edges, root_edges}
use Rattle.xs_plan.proofs.ReadLemmas.{few_owners, length-port_edges, slice_get-append_left, slice_get-append_right}
use Rattle.xs_plan.proofs.aliases.Aliases.read.Goals as goal

pub overflow_cast-ports : goal.overflow_cast-ports
overflow_cast-ports c = omega (arith, few_owners c.self.invariant, c.self.inside.owners.ok.0)

pub returns-then-e-ports : goal.returns-then-e-ports
returns-then-e-ports c =
    let entries = c.args.self.now.entries in
    let many = c.self.invariant.owners_many ∙ ap (λ (v : Rooted). length (port_sources v.entries)) c.self.view_is in
    let short : c.args.e < length (port_edges 0 entries) =
    omega (arith, length-port_edges 0 entries, many, c.self.inside.owners.ok.0) in
    slice_get-append_left (port_edges 0 entries) (root_edges c.args.tiles 0 c.args.self.now.roots) c.args.e short
    ∙ c.port_edge.ensures

pub returns-else-e-ports : goal.returns-else-e-ports
returns-else-e-ports c =
    let ports = port_edges 0 c.args.self.now.entries in
    let roots = root_edges c.args.tiles 0 c.args.self.now.roots in
    let many = c.self.invariant.owners_many ∙ ap (λ (v : Rooted). length (port_sources v.entries)) c.self.view_is in
    let at : c.args.e ≡ length ports + (c.args.e - c.len-ports.result) =
    omega (arith, length-port_edges 0 c.args.self.now.entries, many, c.self.inside.owners.ok.0) in
    ap (λ n. slice_get (ports ++ roots) n) at
    ∙ slice_get-append_right ports roots (c.args.e - c.len-ports.result)
    ∙ c.root_edge.ensures
