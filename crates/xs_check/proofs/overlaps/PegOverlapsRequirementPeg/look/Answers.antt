use Rattle.std.proofs.Common.{ap}
use Rattle.xs_scene.specs.Records.{PegRecord}
use Rattle.xs_check.specs.Passes.{differ_in_row}
use Rattle.xs_check.proofs.Tests.{rows_decided}
use Rattle.xs_check.proofs.overlaps.PegOverlapsRequirementPeg.look.Goals as goal

pub returns : goal.returns
returns c = rw (c.in_ok-path.ensures, c.items.ensures, ap (λ (x : PegRecord). x.keys) c.item.view_is) at (c.each_apart.ensures differ_in_row rows_decided)
