use Rattle.xs_fault.specs.Paths.{path_of}
use Rattle.xs_check.proofs.FirstShared.{shared_told}
use Rattle.xs_check.proofs.overlaps.each_apart.Goals as goal

pub returns : goal.returns
returns g c = λ apart decides. shared_told g.T.HasRow.apart apart decides
    (path_of c.args.field c.args.at.now) c.args.items.now _ c.tell_first.result c.in_ok-first.ensures c.tell_first.ensures
