use Rattle.std.proofs.Common.{◌≡◌}
use Rattle.xs_graph.proofs.ChainMarks.{first_chain}
use Rattle.xs_graph.proofs.chains.first_long.Goals as goal

pub returns : goal.returns
returns c =
    let same : c.deref.result.now ≡ c.in_ok-marks.marks.items = cc in
    first_chain c.args.links.now c.args.steps c.deref.result.now c.first_marked.result c.requires (rw same c.in_ok-marks.ensures)
    c.first_marked.ensures
