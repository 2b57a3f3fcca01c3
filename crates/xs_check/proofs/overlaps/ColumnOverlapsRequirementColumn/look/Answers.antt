use Rattle.std.proofs.Common.{ap}
use Rattle.xs_scene.specs.Records.{ColumnRecord}
use Rattle.xs_check.specs.Passes.{are_apart}
use Rattle.xs_check.proofs.Tests.{cells_decided}
use Rattle.xs_check.proofs.overlaps.ColumnOverlapsRequirementColumn.look.Goals as goal

pub returns : goal.returns
returns c = rw (c.in_ok-path.ensures, c.items.ensures, ap (λ (x : ColumnRecord). x.cells) c.item.view_is) at (c.each_apart.ensures are_apart cells_decided)
